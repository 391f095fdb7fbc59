-- The positions in a series: neighbours in their register, one for each of several accounts.
use Rattle.std.proofs.Common.{◌≡◌, ℕ, suc, ◌+◌, ◌-◌, ◌*◌, ◌≤◌, Bool, true, false, cond, eqb, List, [], ◌∷◌, map, take, drop, filter, refl, ap, ◌∙◌, arith}
use Rattle.std.specs.List.{zip, between}
use Rattle.std.proofs.lemmas.List.{take-map, drop-map}
use Rattle.std.proofs.lemmas.Bool.{eqb-true}
use Rattle.registers.specs.Rows.{Rows, Rising, keys_in, contents_in, below}
use Rattle.registers.specs.Stretches.{onwards, stretch, StretchAt}
use Rattle.registers.proofs.OneRow.{rising_down}
use Rattle.registers.proofs.Stretches.{length_front, length-stretch}
use Rattle.positions.specs.declared.position.Position.{Position}
use Rattle.positions.specs.Positions.{flat}
use Rattle.positions.specs.Keys.{line_key, series_of_key, account_of_key}
use Rattle.ledger.specs.Rows.{at, present, in_series, Each}
use Rattle.ledger.specs.Book.{Book, position_at}
use Rattle.ledger.proofs.RowLaws.{first_key, in_series_lem, each_more, each_kept}
use Rattle.ledger.proofs.Presence.{rows_found}
use Rattle.ledger.specs.Sound.{Owned}

-- ---- a part of the keys beside the same part of the contents
between_map : {X Y : Type 0} (f : X → Y) (i j : ℕ) (xs : List X) → between i j (map f xs) ≡ map f (between i j xs)
between_map f i j xs = ap (take (j - i)) (drop-map f i xs) ∙ take-map f (j - i) (drop i xs)

zipped_back : {V : Type 0} (rs : Rows V) → zip (keys_in rs) (contents_in rs) ≡ rs
zipped_back [] = refl
zipped_back {V} (r ∷ rs) = ap (λ (qs : Rows V). r ∷ qs) (zipped_back rs)

part_rows : {V : Type 0} (i j : ℕ) (rs : Rows V) → zip (between i j (keys_in rs)) (between i j (contents_in rs)) ≡ between i j rs
part_rows {V} i j rs =
    ap (λ (ks : List ℕ). zip ks (between i j (contents_in rs))) (between_map (λ (r : ℕ × V). r.0) i j rs)
    ∙ ap (λ (vs : List V). zip (keys_in (between i j rs)) vs) (between_map (λ (r : ℕ × V). r.1) i j rs)
    ∙ zipped_back (between i j rs)

stretch_at : {V : Type 0} (a b from to : ℕ) (rs : Rows V) → StretchAt a b rs from to → between from to rs ≡ stretch a b rs
stretch_at {V} a b from to rs h =
    let f : from ≡ below a rs = h.first ∙ length_front a rs in
    let n : to - from ≡ below b (onwards a rs) = omega (arith, h.last, length-stretch a b rs) in
    ap (λ (m : ℕ). take m (drop from rs)) n ∙ ap (λ (m : ℕ). take (below b (onwards a rs)) (drop m rs)) f

pub series_rows : (s from to : ℕ) (ps : Rows Position) → Rising 0 ps → StretchAt (s * 65536) ((s + 1) * 65536) ps from to
    → zip (between from to (keys_in ps)) (between from to (contents_in ps)) ≡ in_series s ps
series_rows s from to ps o h =
    let a : s * 65536 ≡ first_key s = omega arith in
    let b : (s + 1) * 65536 ≡ first_key (suc s) = omega arith in
    part_rows from to ps
    ∙ stretch_at (s * 65536) ((s + 1) * 65536) from to ps h
    ∙ ap (λ (k : ℕ). stretch k ((s + 1) * 65536) ps) a
    ∙ ap (λ (k : ℕ). stretch (first_key s) k ps) b
    ∙ in_series_lem s ps o

-- ---- each of them
kept_rises : {V : Type 0} (p : ℕ × V → Bool) (lo : ℕ) (rs : Rows V) → Rising lo rs → Rising lo (filter p rs)
kept_rises p lo [] o = tt
kept_rises {V} p lo (r ∷ rs) o = ways (p r) (kept_rises p (suc r.0) rs o.1)
  where
    ways : (t : Bool) → Rising (suc r.0) (filter p rs) → Rising lo (cond t (r ∷ filter p rs) (filter p rs))
    ways true ih = (o.0, ih)
    ways false ih = rising_down lo (suc r.0) (filter p rs) (omega (arith, o.0)) ih

pub in_order : (s : ℕ) (ps : Rows Position) → Rising 0 ps → Rising 0 (in_series s ps)
in_order s ps o = kept_rises (λ r. eqb (series_of_key r.0) s) 0 ps o

kept_pass : {V : Type 0} (t : ℕ → Bool) (rs : Rows V) → Each (λ k v. t k ≡ true) (filter (λ r. t r.0) rs)
kept_pass t [] = tt
kept_pass {V} t (r ∷ rs) = ways (t r.0) refl (kept_pass t rs)
  where
    ways : (c : Bool) → t r.0 ≡ c → Each (λ k v. t k ≡ true) (filter (λ r. t r.0) rs)
        → Each (λ k v. t k ≡ true) (cond c (r ∷ filter (λ r. t r.0) rs) (filter (λ r. t r.0) rs))
    ways true e o = (e, o)
    ways false e o = o

pub each_both : {V : Type 0} (P Q : ℕ → V → Type 0) (rs : Rows V) → Each P rs → Each Q rs → Each (λ k v. P k v × Q k v) rs
each_both P Q [] o u = tt
each_both P Q (r ∷ rs) o u = ((o.0, u.0), each_both P Q rs o.1 u.1)

pub all_in : (s : ℕ) (ps : Rows Position) → Each (λ k l. series_of_key k ≡ s) (in_series s ps)
all_in s ps =
    each_more (λ k l. eqb (series_of_key k) s ≡ true) (λ k l. series_of_key k ≡ s) (in_series s ps) (λ k l e. eqb-true (series_of_key k) s e)
    (kept_pass (λ k. eqb (series_of_key k) s) ps)

-- a row of the series s: the position of its account, which is there
pub record Line (b : Book) (s k : ℕ) (l : Position) : Type 0 where
  pub found : position_at b s (account_of_key k) ≡ l
  pub owner : present b.accounts (account_of_key k) ≡ true

pub lines : (b : Book) (s : ℕ) → Rising 0 b.positions → Owned b → Each (Line b s) (in_series s b.positions)
lines b s o w =
    each_more (λ k l. (series_of_key k ≡ s) × ((at flat b.positions k ≡ l) × (present b.accounts (account_of_key k) ≡ true))) (Line b s) (in_series s b.positions)
    (λ k l h. record { found = ap (at flat b.positions) (key k h.0) ∙ h.1.0; owner = h.1.1 })
    (each_both (λ k l. series_of_key k ≡ s) (λ k l. (at flat b.positions k ≡ l) × (present b.accounts (account_of_key k) ≡ true)) (in_series s b.positions) (all_in s b.positions)
    (each_kept (λ k l. (at flat b.positions k ≡ l) × (present b.accounts (account_of_key k) ≡ true)) _ b.positions
    (each_both (λ k l. at flat b.positions k ≡ l) (λ k l. present b.accounts (account_of_key k) ≡ true) b.positions
    (each_more (λ k l. (0 ≤ k) × (at flat b.positions k ≡ l)) (λ k l. at flat b.positions k ≡ l) b.positions (λ k l h. h.1) (rows_found flat 0 b.positions o)) w)))
  where
    key : (k : ℕ) → series_of_key k ≡ s → line_key s (account_of_key k) ≡ k
    key k e = omega arith
