-- Laws of one row put in or taken out: what a look-up finds, and that order is kept.
use Rattle.std.proofs.Common.{◌≡◌, ℕ, zero, suc, ◌<◌, ◌≤◌, [], ◌∷◌, length, get_or, Some, None, refl, ap, arith}
use Rattle.std.specs.List.{slice_get}
use Rattle.std.proofs.lemmas.Bool.Decides.{nat_tests}
use Rattle.std.proofs.lemmas.Bool.{lt-ltb}
use Rattle.registers.specs.Rows.{Rows, Rising, lookup, put, without, keys_in, contents_in}

pub rising_down : {V : Type 0} (lo hi : ℕ) (rs : Rows V) → lo ≤ hi → Rising hi rs → Rising lo rs
rising_down lo hi [] h o = tt
rising_down lo hi (r ∷ rs) h o = (omega (arith, o.0), o.1)

pub lookup-below : {V : Type 0} (k lo : ℕ) (rs : Rows V) → Rising lo rs → k < lo → lookup rs k ≡ None
unfolding lookup
lookup-below k lo [] o h = refl
lookup-below k lo (r ∷ rs) o h = rw (lt-ltb k r.0 (omega (arith, o.0)))

-- ---- a row put in
pub lookup-put_same : {V : Type 0} (k : ℕ) (v : V) (rs : Rows V) → lookup (put k v rs) k ≡ Some v
unfolding lookup put
lookup-put_same k v [] = grind (arith, nat_tests)
lookup-put_same k v (r ∷ rs) = let ih = lookup-put_same k v rs in grind (arith, nat_tests)

pub lookup-put_other : {V : Type 0} (k j : ℕ) (v : V) (rs : Rows V) → (j ≡ k → ⊥) → lookup (put k v rs) j ≡ lookup rs j
unfolding lookup put
lookup-put_other k j v [] n = grind (arith, nat_tests)
lookup-put_other k j v (r ∷ rs) n = let ih = lookup-put_other k j v rs n in grind (arith, nat_tests)

pub rising_put : {V : Type 0} (k lo : ℕ) (v : V) (rs : Rows V) → lo ≤ k → Rising lo rs → Rising lo (put k v rs)
unfolding put
rising_put k lo v [] h o = (h, tt)
rising_put k lo v (r ∷ rs) h o = let ih = rising_put k (suc r.0) v rs in grind (arith, nat_tests)

-- ---- a row taken out
pub lookup-without_same : {V : Type 0} (k lo : ℕ) (rs : Rows V) → Rising lo rs → lookup (without k rs) k ≡ None
unfolding lookup without
lookup-without_same k lo [] o = refl
lookup-without_same k lo (r ∷ rs) o = let ih = lookup-without_same k (suc r.0) rs o.1 in let z = lookup-below k (suc r.0) rs o.1 in grind (arith, nat_tests)

pub lookup-without_other : {V : Type 0} (k j lo : ℕ) (rs : Rows V) → Rising lo rs → (j ≡ k → ⊥) → lookup (without k rs) j ≡ lookup rs j
unfolding lookup without
lookup-without_other k j lo [] o n = refl
lookup-without_other k j lo (r ∷ rs) o n = let ih = lookup-without_other k j (suc r.0) rs o.1 n in let z = lookup-below j (suc r.0) rs o.1 in grind (arith, nat_tests)

pub without_absent : {V : Type 0} (k : ℕ) (rs : Rows V) → lookup rs k ≡ None → without k rs ≡ rs
unfolding lookup without
without_absent k [] e = refl
without_absent k (r ∷ rs) e = let ih = without_absent k rs in grind (arith, nat_tests)

pub rising_without : {V : Type 0} (k lo : ℕ) (rs : Rows V) → Rising lo rs → Rising lo (without k rs)
unfolding without
rising_without k lo [] o = tt
rising_without k lo (r ∷ rs) o = let ih = rising_without k (suc r.0) rs o.1 in let z = rising_down lo (suc r.0) rs in grind (arith, nat_tests)

-- ---- keys in order
pub key_from : {V : Type 0} (lo : ℕ) (rs : Rows V) (i : ℕ) → Rising lo rs → i < length rs → lo ≤ get_or (keys_in rs) i 0
key_from lo [] i o l = absurd (omega arith)
key_from lo (r ∷ rs) zero o l = o.0
key_from lo (r ∷ rs) (suc i) o l = let ih = key_from (suc r.0) rs i o.1 (omega arith) in omega (arith, o.0)

pub once : {V : Type 0} (lo : ℕ) (rs : Rows V) (i j : ℕ) → Rising lo rs → i < length rs → j < length rs → get_or (keys_in rs) i 0 ≡ get_or (keys_in rs) j 0 → i ≡ j
once lo [] i j o l m e = absurd (omega arith)
once lo (r ∷ rs) zero zero o l m e = refl
once lo (r ∷ rs) zero (suc j) o l m e = absurd (omega (arith, key_from (suc r.0) rs j o.1 (omega arith)))
once lo (r ∷ rs) (suc i) zero o l m e = absurd (omega (arith, key_from (suc r.0) rs i o.1 (omega arith)))
once lo (r ∷ rs) (suc i) (suc j) o l m e = ap suc (once (suc r.0) rs i j o.1 (omega arith) (omega arith) e)

pub lookup_at : {V : Type 0} (lo : ℕ) (rs : Rows V) (i : ℕ) → Rising lo rs → i < length rs → lookup rs (get_or (keys_in rs) i 0) ≡ slice_get (contents_in rs) i
unfolding lookup
lookup_at lo [] i o l = absurd (omega arith)
lookup_at lo (r ∷ rs) zero o l = grind (arith, nat_tests)
lookup_at lo (r ∷ rs) (suc i) o l = let ih = lookup_at (suc r.0) rs i o.1 (omega arith) in let h = key_from (suc r.0) rs i o.1 (omega arith) in grind (arith, nat_tests)
