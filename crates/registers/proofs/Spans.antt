-- A register's stretch, by its places.
use Rattle.std.proofs.Common.{◌≡◌, ℕ, ◌+◌, ◌-◌, ◌≤◌, List, ◌++◌, map, length, take, drop, sym, ap, ◌∙◌, ap₂, arith}
use Rattle.std.specs.List.{between, zip}
use Rattle.std.proofs.lemmas.List.{take-map, drop-map, length-take-le, length-drop, length-append, drop-drop, with_items_is}
use Rattle.registers.specs.Rows.{Rows, below, keys_in, contents_in}
use Rattle.registers.specs.Stretches.{front, onwards, stretch, rest, StretchAt, patched, rewritten}
use Rattle.registers.specs.Held.{keys_of, contents_of, rows_of, with_contents}
use Rattle.registers.specs.declared.keyed.Register.{Register}
use Rattle.registers.proofs.Always.{level, count_keys, keys_are, contents_are}
use Rattle.registers.proofs.Cuts.{zipped_mid}
use Rattle.registers.proofs.Stretches.{length_front, length-stretch, below_le, rest_is}

rows_with : {X : Type 0} (r : Register X) (ws : List X) → length ws ≡ length (rows_of r) → rows_of (with_contents r ws) ≡ zip (keys_of r) ws
unfolding rows_of
rows_with r ws n =
    let m = r.contents.ok.0 in
    let k = level r in
    ap (zip (keys_of r)) (with_items_is r.contents ws (omega (arith, count_keys r)))

rows_mid : {X : Type 0} (r : Register X) (ws : List X) (from to : ℕ) → from ≤ to → to ≤ length (keys_of r) → length ws ≡ to - from
    → zip (keys_of r) (take from (contents_of r) ++ (ws ++ drop to (contents_of r))) ≡ take from (rows_of r) ++ (zip (between from to (keys_of r)) ws ++ drop to (rows_of r))
unfolding rows_of
rows_mid r ws from to h k n = zipped_mid (keys_of r) (contents_of r) ws from to (level r) h k n

module _ {V : Type 0} (a b : ℕ) (rs : Rows V) (from to : ℕ) (p : StretchAt a b rs from to) where
  pub from_is : from ≡ below a rs
  from_is = p.first ∙ length_front a rs

  pub to_is : to ≡ below a rs + below b (onwards a rs)
  to_is = let x = length-stretch a b rs in let y = from_is in let z = p.last in omega arith

  pub ends : (from ≤ to) × (to ≤ length rs)
  ends =
      let x = from_is in
      let y = to_is in
      let z = below_le a rs in
      let w = below_le b (onwards a rs) in
      let l = length-drop (below a rs) rs in
      (omega arith, omega arith)

  -- the rows before the stretch, and those after it
  pub cuts : (take from rs ≡ front a rs) × (drop to rs ≡ rest a b rs)
  cuts = (ap (λ (m : ℕ). take m rs) from_is, ap (λ (m : ℕ). drop m rs) to_is ∙ sym (rest_is a b rs))

  -- what is left without the stretch
  pub left : take from rs ++ drop to rs ≡ front a rs ++ rest a b rs
  left = ap₂ (λ (x y : Rows V). x ++ y) cuts.0 cuts.1

  -- the stretch itself
  pub held : between from to rs ≡ stretch a b rs
  held =
      let x = from_is in
      let y = to_is in
      let e : to - from ≡ below b (onwards a rs) = omega arith in
      ap₂ (λ (m n : ℕ). take m (drop n rs)) e x

module _ {X : Type 0} (r : Register X) (a b from to : ℕ) (p : StretchAt a b (rows_of r) from to) where
  -- a column of the stretch
  column : {Y : Type 0} (f : ℕ × X → Y) (ys : List Y) → ys ≡ map f (rows_of r) → between from to ys ≡ map f (stretch a b (rows_of r))
  column f ys e =
      ap (between from to) e
      ∙ ap (take (to - from)) (drop-map f from (rows_of r))
      ∙ take-map f (to - from) (drop from (rows_of r))
      ∙ ap (map f) (held a b (rows_of r) from to p)

  pub keys_held : between from to (keys_of r) ≡ keys_in (stretch a b (rows_of r))
  keys_held = column (λ (x : ℕ × X). x.0) (keys_of r) (keys_are r)

  pub contents_held : between from to (contents_of r) ≡ contents_in (stretch a b (rows_of r))
  contents_held = column (λ (x : ℕ × X). x.1) (contents_of r) (contents_are r)

  -- other contents, written to the part of the stretch
  pub rows_lent : (ws : List X) → length ws ≡ to - from → rows_of (with_contents r (patched from to ws (contents_in (rows_of r)))) ≡ rewritten a b ws (rows_of r)
  rows_lent ws n =
      let rs = rows_of r in
      let cs = contents_of r in
      let h = ends a b rs from to p in
      let k = count_keys r in
      let l = level r in
      let long : length (patched from to ws cs) ≡ length rs =
      let x = length-append (take from cs) (ws ++ drop (to - from) (drop from cs)) in
      let y = length-append ws (drop (to - from) (drop from cs)) in
      let z = length-take-le from cs (omega arith) in
      let u = length-drop (to - from) (drop from cs) in
      let v = length-drop from cs in
      omega arith in
      let tail : drop (to - from) (drop from cs) ≡ drop to cs = drop-drop (to - from) from cs ∙ ap (λ (m : ℕ). drop m cs) (omega arith) in
      ap (λ (vs : List X). rows_of (with_contents r (patched from to ws vs))) (sym (contents_are r))
      ∙ rows_with r (patched from to ws cs) long
      ∙ ap (λ (vs : List X). zip (keys_of r) (take from cs ++ (ws ++ vs))) tail
      ∙ rows_mid r ws from to h.0 (omega arith) n
      ∙ ap₂ (λ (x y : Rows X). x ++ (zip (between from to (keys_of r)) ws ++ y)) (cuts a b rs from to p).0 (cuts a b rs from to p).1
      ∙ ap (λ (ks : List ℕ). front a rs ++ (zip ks ws ++ rest a b rs)) keys_held

-- other contents, as many
pub rows_refilled : {X : Type 0} (r : Register X) (ws : List X) → length ws ≡ length (rows_of r) → rows_of (with_contents r ws) ≡ zip (keys_in (rows_of r)) ws
rows_refilled r ws n = rows_with r ws n ∙ ap (λ (ks : List ℕ). zip ks ws) (keys_are r)
