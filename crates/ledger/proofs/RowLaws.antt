-- Rows: what a change does to what stands under a key, to a sum and to the order; the rows of one series; sums over numbers.
use Rattle.std.proofs.Common.{◌≡◌, ℕ, zero, suc, ◌<◌, ◌≤◌, Bool, true, false, cond, not, eqb, [], ◌∷◌, ◌++◌, length, ℤ, pos, ◌+ℤ◌, ◌-ℤ◌, neg_ℤ, is_some, None, filter, Option, unwrap_or, sym, refl, ap, ◌∙◌, subst, zero-le, arith}
use Rattle.std.proofs.lemmas.Grind.{common_steps}
use mathlib.Core.Path.{fun_ext}
use borrow.Author.Differences.{ints}
use Rattle.std.proofs.lemmas.Bool.Decides.{nat_tests}
use Rattle.registers.specs.Rows.{Rows, lookup, put, without, Rising}
use Rattle.registers.specs.Stretches.{front, stretch, rest}
use Rattle.registers.specs.Sums.{total_ℤ, share_ℤ}
use Rattle.registers.specs.Laws.{inside}
use Rattle.registers.proofs.OneRow.{lookup-below, lookup-put_same, lookup-put_other, rising_put, lookup-without_same, lookup-without_other, rising_without}
use Rattle.registers.proofs.Stretches.{kept, rising_others, lookup-others, length-others}
use Rattle.registers.proofs.Sums.{total_ℤ-put, total_ℤ-without}
use Rattle.positions.specs.declared.position.Position.{Position}
use Rattle.positions.specs.Positions.{flat, is_flat}
use Rattle.positions.specs.Keys.{line_key, series_of_key}
use Rattle.ledger.specs.Rows.{at, present, change, revise, in_series, outside, Each, sum_below}

-- ---- what stands under a key
absent_or : {V : Type 0} (d : V) (o : Option V) → is_some o ≡ false → unwrap_or o d ≡ d
absent_or d o e = grind arith

pub at_absent : {V : Type 0} (d : V) (k : ℕ) (rs : Rows V) → present rs k ≡ false → at d rs k ≡ d
at_absent d k rs e = absent_or d (lookup rs k) e

pub at_below : {V : Type 0} (d : V) (k lo : ℕ) (rs : Rows V) → Rising lo rs → k < lo → at d rs k ≡ d
at_below {V} d k lo rs o h = ap (λ (x : Option V). unwrap_or x d) (lookup-below k lo rs o h)

share_at : {V : Type 0} (w : ℕ → V → ℤ) (d : V) (k : ℕ) (o : Option V) → w k d ≡ pos 0 → share_ℤ w k o ≡ w k (unwrap_or o d)
share_at w d k o z = grind arith

-- ---- one row changed
pub at_change : {V : Type 0} (d : V) (f : V → V) (k j : ℕ) (rs : Rows V) → at d (change d f k rs) j ≡ cond (eqb j k) (f (at d rs j)) (at d rs j)
unfolding change
at_change d f k j rs = grind (arith, lookup-put_other, lookup-put_same)

pub total-change : {V : Type 0} (w : ℕ → V → ℤ) (d : V) (f : V → V) (k : ℕ) (rs : Rows V) → w k d ≡ pos 0
    → total_ℤ w (change d f k rs) ≡ total_ℤ w rs +ℤ (w k (f (at d rs k)) -ℤ w k (at d rs k))
unfolding change
total-change w d f k rs z = omega (arith, ints, total_ℤ-put w k (f (at d rs k)) rs, share_at w d k (lookup rs k) z)

pub rising_change : {V : Type 0} (d : V) (f : V → V) (k : ℕ) (rs : Rows V) → Rising 0 rs → Rising 0 (change d f k rs)
unfolding change
rising_change d f k rs o = rising_put k 0 (f (at d rs k)) rs zero-le o

some_put : {V : Type 0} (k s : ℕ) (v : V) (rs : Rows V) → present rs s ≡ true → present (put k v rs) s ≡ true
some_put k s v rs h = grind (arith, lookup-put_other, lookup-put_same)

-- a change only adds rows
pub present_keep : {V : Type 0} (d : V) (f : V → V) (k s : ℕ) (rs : Rows V) → present rs s ≡ true → present (change d f k rs) s ≡ true
unfolding change
present_keep d f k s rs h = some_put k s (f (at d rs k)) rs h

pub present_change : {V : Type 0} (d : V) (f : V → V) (k s : ℕ) (rs : Rows V) → present (change d f k rs) s ≡ false → present rs s ≡ false
present_change d f k s rs e = grind (arith, present_keep)

-- ---- each row
pub each_at : {V : Type 0} (P : ℕ → V → Type 0) (d : V) (k : ℕ) (rs : Rows V) → P k d → Each P rs → P k (at d rs k)
unfolding lookup
each_at P d k [] h o = h
each_at P d k (r ∷ rs) h o = grind (arith, each_at P d k rs h o.1)

pub each_more : {V : Type 0} (P Q : ℕ → V → Type 0) (rs : Rows V) → ((k : ℕ) (v : V) → P k v → Q k v) → Each P rs → Each Q rs
each_more P Q [] h o = tt
each_more P Q (r ∷ rs) h o = (h r.0 r.1 o.0, each_more P Q rs h o.1)

each_put : {V : Type 0} (P : ℕ → V → Type 0) (k : ℕ) (v : V) (rs : Rows V) → P k v → Each P rs → Each P (put k v rs)
unfolding put
each_put P k v [] h o = (h, tt)
each_put P k v (r ∷ rs) h o = grind (arith, each_put P k v rs h o.1)

each_without : {V : Type 0} (P : ℕ → V → Type 0) (k : ℕ) (rs : Rows V) → Each P rs → Each P (without k rs)
unfolding without
each_without P k [] o = tt
each_without P k (r ∷ rs) o = grind (arith, each_without P k rs o.1)

pub each_kept : {V : Type 0} (P : ℕ → V → Type 0) (t : ℕ × V → Bool) (rs : Rows V) → Each P rs → Each P (filter t rs)
each_kept P t [] o = tt
each_kept P t (r ∷ rs) o = grind (arith, each_kept P t rs o.1)

-- ---- one position changed: a flat one has no row
pub flat_is : (p : Position) → is_flat p ≡ true → p ≡ flat
flat_is p e = grind arith

module _ (f : Position → Position) (k : ℕ) (ps : Rows Position) where
  pub at_revise : (j : ℕ) → Rising 0 ps → at flat (revise f k ps) j ≡ cond (eqb j k) (f (at flat ps j)) (at flat ps j)
  unfolding revise
  at_revise j o = grind (arith, lookup-put_other, lookup-put_same, lookup-without_other, lookup-without_same)

  pub rising_revise : Rising 0 ps → Rising 0 (revise f k ps)
  unfolding revise
  rising_revise o = grind (arith, rising_put, rising_without)

  pub total-revise : (w : ℕ → Position → ℤ) → w k flat ≡ pos 0 → total_ℤ w (revise f k ps) ≡ total_ℤ w ps +ℤ (w k (f (at flat ps k)) -ℤ w k (at flat ps k))
  unfolding revise
  total-revise w z = ways (is_flat (f (at flat ps k))) refl
    where
      ways : (x : Bool) → is_flat (f (at flat ps k)) ≡ x → total_ℤ w (cond x (without k ps) (put k (f (at flat ps k)) ps)) ≡ total_ℤ w ps +ℤ (w k (f (at flat ps k)) -ℤ w k (at flat ps k))
      ways true e = omega (arith, ints, total_ℤ-without w k ps, share_at w flat k (lookup ps k) z, ap (w k) (flat_is (f (at flat ps k)) e), z)
      ways false e = omega (arith, ints, total_ℤ-put w k (f (at flat ps k)) ps, share_at w flat k (lookup ps k) z)

  pub each_revise : (P : ℕ → Position → Type 0) → Each P ps → (is_flat (f (at flat ps k)) ≡ false → P k (f (at flat ps k))) → Each P (revise f k ps)
  unfolding revise
  each_revise P o h = grind (arith, each_put, each_without)

-- ---- the positions in a series are a stretch of neighbours
abbrev pub first_key : ℕ → ℕ
first_key s = line_key s 0

inside_series : (s k : ℕ) → inside (first_key s) (first_key (suc s)) k ≡ eqb (series_of_key k) s
inside_series s k = grind (arith, nat_tests)

pub in_series_lem : (s : ℕ) (ps : Rows Position) → Rising 0 ps → stretch (first_key s) (first_key (suc s)) ps ≡ in_series s ps
in_series_lem s ps o = grind (arith, kept)

pub out_of_series : (s : ℕ) (ps : Rows Position) → Rising 0 ps → front (first_key s) ps ++ rest (first_key s) (first_key (suc s)) ps ≡ outside s ps
out_of_series s ps o =
    (kept (first_key s) (first_key (suc s)) 0 ps o).1
    ∙ ap (λ (t : ℕ → Bool). filter (λ (r : ℕ × Position). not (t r.0)) ps) (fun_ext (inside_series s))

pub rising_outside : (s : ℕ) (ps : Rows Position) → Rising 0 ps → Rising 0 (outside s ps)
rising_outside s ps o = subst (λ (qs : Rows Position). Rising 0 qs) (out_of_series s ps o) (rising_others (first_key s) (first_key (suc s)) 0 ps o)

pub at_outside : (s k : ℕ) (ps : Rows Position) → Rising 0 ps → at flat (outside s ps) k ≡ cond (eqb (series_of_key k) s) flat (at flat ps k)
at_outside s k ps o =
    ap (λ (qs : Rows Position). at flat qs k) (sym (out_of_series s ps o))
    ∙ ap (λ (y : Option Position). unwrap_or y flat) (lookup-others (first_key s) (first_key (suc s)) k 0 ps o)
    ∙ rw (inside_series s k) (ways (eqb (series_of_key k) s))
  where
    ways : (c : Bool) → unwrap_or (cond c None (lookup ps k)) flat ≡ cond c flat (at flat ps k)
    ways true = refl
    ways false = refl

pub length-outside : (s : ℕ) (ps : Rows Position) → Rising 0 ps → length (outside s ps) ≤ length ps
length-outside s ps o = rw (← (out_of_series s ps o)) (let h = length-others (first_key s) (first_key (suc s)) ps in omega arith)

-- ---- sums over rows
pub total_kept : {V : Type 0} (w : ℕ → V → ℤ) (t : ℕ → Bool) (rs : Rows V) → total_ℤ w (filter (λ r. t r.0) rs) ≡ total_ℤ (λ k v. cond (t k) (w k v) (pos 0)) rs
unfolding total_ℤ
total_kept w t [] = refl
total_kept w t (r ∷ rs) = grind (arith, total_kept w t rs)

pub total_same : {V : Type 0} (v w : ℕ → V → ℤ) (rs : Rows V) → ((k : ℕ) (x : V) → v k x ≡ w k x) → total_ℤ v rs ≡ total_ℤ w rs
unfolding total_ℤ
total_same v w rs e = grind arith

pub total_each : {V : Type 0} (P : ℕ → V → Type 0) (v w : ℕ → V → ℤ) (rs : Rows V) → ((k : ℕ) (x : V) → P k x → v k x ≡ w k x) → Each P rs → total_ℤ v rs ≡ total_ℤ w rs
unfolding total_ℤ
total_each P v w [] e o = refl
total_each P v w (r ∷ rs) e o = grind (arith, total_each P v w rs e o.1)

pub total_less : {V : Type 0} (v w : ℕ → V → ℤ) (rs : Rows V) → total_ℤ (λ k x. v k x -ℤ w k x) rs ≡ total_ℤ v rs -ℤ total_ℤ w rs
unfolding total_ℤ
total_less v w [] = refl
total_less v w (r ∷ rs) = omega (arith, ints, total_less v w rs)

pub total_neg : {V : Type 0} (v : ℕ → V → ℤ) (rs : Rows V) → total_ℤ (λ k x. neg_ℤ (v k x)) rs ≡ neg_ℤ (total_ℤ v rs)
unfolding total_ℤ
total_neg v [] = refl
total_neg v (r ∷ rs) = omega (arith, ints, total_neg v rs)

-- the sum of the rows of one key is what stands under it
abbrev pub under : {V : Type 0} → (V → ℤ) → ℕ → ℕ → V → ℤ
under w k j x = cond (eqb k j) (w x) (pos 0)

under_none : {V : Type 0} (w : V → ℤ) (k lo : ℕ) (rs : Rows V) → Rising lo rs → k < lo → total_ℤ (under w k) rs ≡ pos 0
unfolding total_ℤ
under_none w k lo [] o h = refl
under_none w k lo (r ∷ rs) o h = grind (arith, under_none w k (suc r.0) rs o.1 (omega arith))

pub under_at : {V : Type 0} (w : V → ℤ) (d : V) (k lo : ℕ) (rs : Rows V) → w d ≡ pos 0 → Rising lo rs → total_ℤ (under w k) rs ≡ w (at d rs k)
unfolding total_ℤ lookup
under_at w d k lo [] z o = sym z
under_at w d k lo (r ∷ rs) z o = grind (arith, under_none, under_at w d k (suc r.0) rs z o.1)

-- ---- sums below a number
pub below_same : (n : ℕ) (f g : ℕ → ℤ) → ((i : ℕ) → i < n → f i ≡ g i) → sum_below n f ≡ sum_below n g
unfolding sum_below
below_same zero f g e = refl
below_same (suc n) f g e = grind (arith, common_steps, below_same n f g (λ i h. e i (omega arith)))

pub below_zero : (n : ℕ) → sum_below n (λ _. pos 0) ≡ pos 0
unfolding sum_below
below_zero zero = refl
below_zero (suc n) = omega (arith, ints, below_zero n)

pub below_+ : (n : ℕ) (f g : ℕ → ℤ) → sum_below n (λ i. f i +ℤ g i) ≡ sum_below n f +ℤ sum_below n g
unfolding sum_below
below_+ zero f g = refl
below_+ (suc n) f g = omega (arith, ints, below_+ n f g)

below_miss : (n c : ℕ) (x : ℤ) → n ≤ c → sum_below n (λ i. cond (eqb i c) x (pos 0)) ≡ pos 0
unfolding sum_below
below_miss zero c x h = refl
below_miss (suc n) c x h = grind (arith, below_miss n c x (omega arith))

pub below_one : (n c : ℕ) (x : ℤ) → c < n → sum_below n (λ i. cond (eqb i c) x (pos 0)) ≡ x
unfolding sum_below
below_one zero c x h = grind (arith, below_miss)
below_one (suc n) c x h = grind (arith, below_miss, below_one n c x)

-- a sum over rows, by what a number of each key is
pub total-below : {V : Type 0} (n : ℕ) (g : ℕ → ℕ) (w : ℕ → V → ℤ) (rs : Rows V) → Each (λ k v. g k < n) rs
    → total_ℤ w rs ≡ sum_below n (λ i. total_ℤ (λ k v. cond (eqb i (g k)) (w k v) (pos 0)) rs)
unfolding total_ℤ
total-below n g w [] o = sym (below_zero n)
total-below n g w (r ∷ rs) o =
    omega (
      arith,
      ints,
      total-below n g w rs o.1,
      below_one n (g r.0) (w r.0 r.1) o.0,
      below_+ n (λ i. cond (eqb i (g r.0)) (w r.0 r.1) (pos 0)) (λ i. total_ℤ (λ k v. cond (eqb i (g k)) (w k v) (pos 0)) rs),
    )
