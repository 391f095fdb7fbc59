-- Laws of the three parts of rows.
use Rattle.std.proofs.Common.{◌≡◌, ℕ, suc, ◌+◌, ◌≤◌, Bool, false, cond, not, List, [], ◌∷◌, ◌++◌, length, drop, ℤ, ◌+ℤ◌, None, filter, max, sym, refl, ap, ◌∙◌, subst, ⊎_elim, arith}
use Rattle.std.specs.List.{zip}
use Rattle.std.proofs.lemmas.List.{length-take-le, take-append-drop, drop-drop, length-append, length-map, map-append}
use Rattle.std.proofs.lemmas.Slice.Zip.{firsts-zip}
use Rattle.std.proofs.lemmas.Int.{ints}
use Rattle.std.proofs.lemmas.Bool.{cases_lt}
use Rattle.std.proofs.lemmas.Bool.Decides.{nat_tests}
use Rattle.registers.specs.Rows.{Rows, Rising, below, keys_in, lookup}
use Rattle.registers.specs.Stretches.{front, onwards, stretch, rest, rewritten}
use Rattle.registers.specs.Sums.{total, total_ℤ}
use Rattle.registers.specs.Laws.{inside}
use Rattle.registers.proofs.OneRow.{rising_down, lookup-below}
use Rattle.registers.proofs.Sums.{total-append, total_ℤ-append}

pub below_le : {V : Type 0} (k : ℕ) (rs : Rows V) → below k rs ≤ length rs
unfolding below
below_le k [] = omega arith
below_le k (r ∷ rs) = let ih = below_le k rs in grind (arith, nat_tests)

-- how many rows are in front, and in the stretch
pub length_front : {V : Type 0} (k : ℕ) (rs : Rows V) → length (front k rs) ≡ below k rs
length_front k rs = length-take-le (below k rs) rs (below_le k rs)

pub length-stretch : {V : Type 0} (a b : ℕ) (rs : Rows V) → length (stretch a b rs) ≡ below b (onwards a rs)
length-stretch a b rs = length_front b (onwards a rs)

-- front, stretch and rest are the rows
pub parts : {V : Type 0} (a b : ℕ) (rs : Rows V) → front a rs ++ (stretch a b rs ++ rest a b rs) ≡ rs
parts a b rs = ap (λ l. front a rs ++ l) (take-append-drop (below b (onwards a rs)) (onwards a rs)) ∙ take-append-drop (below a rs) rs

-- where the stretch ends
pub below_onwards : {V : Type 0} (a b : ℕ) (rs : Rows V) → a ≤ b → below b rs ≡ below a rs + below b (onwards a rs)
unfolding below
below_onwards a b [] h = refl
below_onwards a b (r ∷ rs) h = let ih = below_onwards a b rs h in grind (arith, nat_tests)

pub onwards_none : {V : Type 0} (a b : ℕ) (rs : Rows V) → b ≤ a → below b (onwards a rs) ≡ 0
unfolding below
onwards_none a b [] h = refl
onwards_none a b (r ∷ rs) h = let ih = onwards_none a b rs h in grind (arith, nat_tests)

pub below_max : {V : Type 0} (a b : ℕ) (rs : Rows V) → below (max a b) rs ≡ below a rs + below b (onwards a rs)
below_max a b rs =
    ⊎_elim
    (λ l. let e : max a b ≡ b = omega arith in ap (λ (k : ℕ). below k rs) e ∙ below_onwards a b rs (omega arith))
    (λ l. let e : max a b ≡ a = omega arith in let z = onwards_none a b rs l in ap (λ (k : ℕ). below k rs) e ∙ omega arith)
    (cases_lt a b)

-- the rest, by its place
pub rest_is : {V : Type 0} (a b : ℕ) (rs : Rows V) → rest a b rs ≡ drop (below a rs + below b (onwards a rs)) rs
rest_is a b rs = drop-drop (below b (onwards a rs)) (below a rs) rs

-- ---- the parts by their keys
abbrev is_inside : {V : Type 0} → ℕ → ℕ → ℕ × V → Bool
is_inside a b r = inside a b r.0

abbrev is_outside : {V : Type 0} → ℕ → ℕ → ℕ × V → Bool
is_outside a b r = not (inside a b r.0)

-- rows that all lie past the stretch
kept_past : {V : Type 0} (a b lo : ℕ) (rs : Rows V) → Rising lo rs → a ≤ lo → b ≤ lo → ([] ≡ filter (is_inside a b) rs) × (rs ≡ filter (is_outside a b) rs)
kept_past a b lo [] o h l = (refl, refl)
kept_past a b lo (r ∷ rs) o h l = let g = o.0 in let ih = kept_past a b (suc r.0) rs o.1 (omega arith) (omega arith) in grind (arith, nat_tests)

-- rows that begin in the stretch, or past it
kept_onwards : {V : Type 0} (a b lo : ℕ) (rs : Rows V) → Rising lo rs → a ≤ lo → (front b rs ≡ filter (is_inside a b) rs) × (onwards b rs ≡ filter (is_outside a b) rs)
unfolding below
kept_onwards a b lo [] o h = (refl, refl)
kept_onwards a b lo (r ∷ rs) o h =
    let g = o.0 in
    let ih = kept_onwards a b (suc r.0) rs o.1 (omega arith) in
    let past = kept_past a b (suc r.0) rs o.1 in
    grind (arith, nat_tests)

-- the stretch is the rows with keys from a to below b, and the front and the rest are the others
pub kept : {V : Type 0} (a b lo : ℕ) (rs : Rows V) → Rising lo rs → (stretch a b rs ≡ filter (is_inside a b) rs) × (front a rs ++ rest a b rs ≡ filter (is_outside a b) rs)
unfolding below
kept a b lo [] o = (refl, refl)
kept a b lo (r ∷ rs) o =
    let ih = kept a b (suc r.0) rs o.1 in
    let at = kept_onwards a b r.0 (r ∷ rs) in
    grind (arith, nat_tests)

-- ---- rows without the stretch
kept_rises : {V : Type 0} (p : ℕ × V → Bool) (lo : ℕ) (rs : Rows V) → Rising lo rs → Rising lo (filter p rs)
kept_rises p lo [] o = tt
kept_rises p lo (r ∷ rs) o =
    let ih = kept_rises p (suc r.0) rs o.1 in
    let down = rising_down lo (suc r.0) (filter p rs) in
    grind (arith, nat_tests)

pub rising_others : {V : Type 0} (a b lo : ℕ) (rs : Rows V) → Rising lo rs → Rising lo (front a rs ++ rest a b rs)
rising_others {V} a b lo rs o = let R : Rows V → Type 0 = Rising lo in subst R (sym (kept a b lo rs o).1) (kept_rises (is_outside a b) lo rs o)

looked_kept : {V : Type 0} (a b j lo : ℕ) (rs : Rows V) → Rising lo rs → lookup (filter (is_outside a b) rs) j ≡ cond (inside a b j) None (lookup rs j)
unfolding lookup
looked_kept a b j lo [] o = grind (arith, nat_tests)
looked_kept a b j lo (r ∷ rs) o =
    let ih = looked_kept a b j (suc r.0) rs o.1 in
    let z = lookup-below j (suc r.0) (filter (is_outside a b) rs) (kept_rises (is_outside a b) (suc r.0) rs o.1) in
    grind (arith, nat_tests)

pub lookup-others : {V : Type 0} (a b j lo : ℕ) (rs : Rows V) → Rising lo rs → lookup (front a rs ++ rest a b rs) j ≡ cond (inside a b j) None (lookup rs j)
lookup-others {V} a b j lo rs o = ap (λ (t : Rows V). lookup t j) (kept a b lo rs o).1 ∙ looked_kept a b j lo rs o

pub length-others : {V : Type 0} (a b : ℕ) (rs : Rows V) → length (front a rs ++ rest a b rs) + length (stretch a b rs) ≡ length rs
length-others a b rs =
    let x = length-append (front a rs) (stretch a b rs ++ rest a b rs) in
    let y = length-append (stretch a b rs) (rest a b rs) in
    let z = length-append (front a rs) (rest a b rs) in
    let e = ap length (parts a b rs) in
    omega arith

module _ {V : Type 0} (f : ℕ → V → ℕ) (a b : ℕ) (rs : Rows V) where
  -- the sum of the three parts
  pub total_parts : total f rs ≡ total f (front a rs) + (total f (stretch a b rs) + total f (rest a b rs))
  total_parts =
      let x = total-append f (front a rs) (stretch a b rs ++ rest a b rs) in
      let y = total-append f (stretch a b rs) (rest a b rs) in
      ap (total f) (sym (parts a b rs)) ∙ omega arith

  pub total-others : total f (front a rs ++ rest a b rs) + total f (stretch a b rs) ≡ total f rs
  total-others = let e = total_parts in let x = total-append f (front a rs) (rest a b rs) in omega arith

  pub total-rewritten : (ws : List V) → total f (rewritten a b ws rs) + total f (stretch a b rs) ≡ total f rs + total f (zip (keys_in (stretch a b rs)) ws)
  total-rewritten ws =
      let new = zip (keys_in (stretch a b rs)) ws in
      let e = total_parts in
      let x = total-append f (front a rs) (new ++ rest a b rs) in
      let y = total-append f new (rest a b rs) in
      omega arith

module _ {V : Type 0} (f : ℕ → V → ℤ) (a b : ℕ) (rs : Rows V) where
  pub total_ℤ_parts : total_ℤ f rs ≡ total_ℤ f (front a rs) +ℤ (total_ℤ f (stretch a b rs) +ℤ total_ℤ f (rest a b rs))
  total_ℤ_parts =
      let x = total_ℤ-append f (front a rs) (stretch a b rs ++ rest a b rs) in
      let y = total_ℤ-append f (stretch a b rs) (rest a b rs) in
      ap (total_ℤ f) (sym (parts a b rs)) ∙ omega (arith, ints)

  pub total_ℤ-others : total_ℤ f (front a rs ++ rest a b rs) +ℤ total_ℤ f (stretch a b rs) ≡ total_ℤ f rs
  total_ℤ-others = let e = total_ℤ_parts in let x = total_ℤ-append f (front a rs) (rest a b rs) in omega (arith, ints)

  pub total_ℤ-rewritten : (ws : List V) → total_ℤ f (rewritten a b ws rs) +ℤ total_ℤ f (stretch a b rs) ≡ total_ℤ f rs +ℤ total_ℤ f (zip (keys_in (stretch a b rs)) ws)
  total_ℤ-rewritten ws =
      let new = zip (keys_in (stretch a b rs)) ws in
      let e = total_ℤ_parts in
      let x = total_ℤ-append f (front a rs) (new ++ rest a b rs) in
      let y = total_ℤ-append f new (rest a b rs) in
      omega (arith, ints)

-- ---- other contents in the stretch
pub keys_rewritten : {V : Type 0} (a b : ℕ) (ws : List V) (rs : Rows V) → length ws ≡ length (stretch a b rs) → keys_in (rewritten a b ws rs) ≡ keys_in rs
keys_rewritten {V} a b ws rs n =
    let key = λ (r : ℕ × V). r.0 in
    let ks = keys_in (stretch a b rs) in
    map-append key (front a rs) (zip ks ws ++ rest a b rs)
    ∙ ap (λ (l : List ℕ). keys_in (front a rs) ++ l) (map-append key (zip ks ws) (rest a b rs)
    ∙ ap (λ (l : List ℕ). l ++ keys_in (rest a b rs)) (firsts-zip ks ws (n ∙ sym (length-map (stretch a b rs) key)))
    ∙ sym (map-append key (stretch a b rs) (rest a b rs)))
    ∙ sym (map-append key (front a rs) (stretch a b rs ++ rest a b rs))
    ∙ ap keys_in (parts a b rs)

-- rows that begin at or past a: the content of a key that is not inside is not touched
looked_onwards : {V : Type 0} (a b j lo : ℕ) (ws : List V) (rs : Rows V) → inside a b j ≡ false → length ws ≡ length (front b rs) → a ≤ lo → Rising lo rs → lookup (zip (keys_in (front b rs)) ws ++ onwards b rs) j ≡ lookup rs j
unfolding lookup below
looked_onwards a b j lo ws [] i n h o = refl
looked_onwards a b j lo [] (r ∷ rs) i n h o = grind (arith, nat_tests)
looked_onwards a b j lo (w ∷ ws) (r ∷ rs) i n h o = next (looked_onwards a b j (suc r.0) ws rs i)
  where
    next : (length ws ≡ length (front b rs) → a ≤ suc r.0 → Rising (suc r.0) rs → lookup (zip (keys_in (front b rs)) ws ++ onwards b rs) j ≡ lookup rs j) → lookup (zip (keys_in (front b (r ∷ rs))) (w ∷ ws) ++ onwards b (r ∷ rs)) j ≡ lookup (r ∷ rs) j
    next ih = let g = o.0 in grind (arith, nat_tests)

pub lookup-rewritten : {V : Type 0} (a b j lo : ℕ) (ws : List V) (rs : Rows V) → Rising lo rs → length ws ≡ length (stretch a b rs) → inside a b j ≡ false → lookup (rewritten a b ws rs) j ≡ lookup rs j
unfolding lookup below
lookup-rewritten a b j lo ws [] o n i = refl
lookup-rewritten a b j lo ws (r ∷ rs) o n i =
    let ih = lookup-rewritten a b j (suc r.0) ws rs o.1 in
    let at = looked_onwards a b j r.0 ws (r ∷ rs) i in
    grind (arith, nat_tests)
