-- Laws of sums over rows: how a sum changes with one row, and over two parts.
use Rattle.std.proofs.Common.{◌≡◌, ℕ, ◌+◌, Bool, true, false, cond, eqb, ltb, [], ◌∷◌, ◌++◌, length, ℤ, ◌+ℤ◌, Some, None, sym, refl, ap, ◌∙◌, arith}
use Rattle.std.proofs.lemmas.Bool.{eqb-true}
use Rattle.std.proofs.lemmas.Bool.Decides.{nat_tests}
use Rattle.std.proofs.lemmas.Int.{ints}
use Rattle.registers.specs.Rows.{Rows, lookup, put, without}
use Rattle.registers.specs.Sums.{total, total_ℤ, share, share_ℤ}

module _ {V : Type 0} (f : ℕ → V → ℕ) where
  pub total-put : (k : ℕ) (v : V) (rs : Rows V) → total f (put k v rs) + share f k (lookup rs k) ≡ total f rs + f k v
  unfolding total put lookup
  total-put k v [] = omega arith
  total-put k v (r ∷ rs) = let ih = total-put k v rs in grind (arith, nat_tests)

  pub total-without : (k : ℕ) (rs : Rows V) → total f (without k rs) + share f k (lookup rs k) ≡ total f rs
  unfolding total without lookup
  total-without k [] = refl
  total-without k (r ∷ rs) = let ih = total-without k rs in grind (arith, nat_tests)

  pub total-append : (xs ys : Rows V) → total f (xs ++ ys) ≡ total f xs + total f ys
  unfolding total
  total-append [] ys = omega arith
  total-append (r ∷ xs) ys = let ih = total-append xs ys in omega arith

module _ {V : Type 0} (f : ℕ → V → ℤ) where
  pub total_ℤ-put : (k : ℕ) (v : V) (rs : Rows V) → total_ℤ f (put k v rs) +ℤ share_ℤ f k (lookup rs k) ≡ total_ℤ f rs +ℤ f k v
  unfolding total_ℤ put lookup
  total_ℤ-put k v [] = omega (arith, ints)
  total_ℤ-put k v (r ∷ rs) = ways (ltb k r.0) (eqb k r.0) refl (total_ℤ-put k v rs)
    where
      ways : (b c : Bool) → eqb k r.0 ≡ c → total_ℤ f (put k v rs) +ℤ share_ℤ f k (lookup rs k) ≡ total_ℤ f rs +ℤ f k v
          → total_ℤ f (cond b ((k, v) ∷ r ∷ rs) (cond c ((k, v) ∷ rs) (r ∷ put k v rs))) +ℤ share_ℤ f k (cond b None (cond c (Some r.1) (lookup rs k))) ≡ (f r.0 r.1 +ℤ total_ℤ f rs) +ℤ f k v
      ways true c e ih = omega (arith, ints)
      ways false true e ih = omega (arith, ints, ap (λ (n : ℕ). f n r.1) (eqb-true k r.0 e))
      ways false false e ih = omega (arith, ints)

  pub total_ℤ-without : (k : ℕ) (rs : Rows V) → total_ℤ f (without k rs) +ℤ share_ℤ f k (lookup rs k) ≡ total_ℤ f rs
  unfolding total_ℤ without lookup
  total_ℤ-without k [] = refl
  total_ℤ-without k (r ∷ rs) = ways (ltb k r.0) (eqb k r.0) refl (total_ℤ-without k rs)
    where
      ways : (b c : Bool) → eqb k r.0 ≡ c → total_ℤ f (without k rs) +ℤ share_ℤ f k (lookup rs k) ≡ total_ℤ f rs
          → total_ℤ f (cond b (r ∷ rs) (cond c rs (r ∷ without k rs))) +ℤ share_ℤ f k (cond b None (cond c (Some r.1) (lookup rs k))) ≡ f r.0 r.1 +ℤ total_ℤ f rs
      ways true c e ih = omega (arith, ints)
      ways false true e ih = omega (arith, ints, ap (λ (n : ℕ). f n r.1) (eqb-true k r.0 e))
      ways false false e ih = omega (arith, ints)

  pub total_ℤ-append : (xs ys : Rows V) → total_ℤ f (xs ++ ys) ≡ total_ℤ f xs +ℤ total_ℤ f ys
  unfolding total_ℤ
  total_ℤ-append [] ys = omega (arith, ints)
  total_ℤ-append (r ∷ xs) ys = let ih = total_ℤ-append xs ys in omega (arith, ints)

-- the count is the sum of ones
pub total_ones : {V : Type 0} (rs : Rows V) → total (λ _ _. 1) rs ≡ length rs
unfolding total
total_ones [] = refl
total_ones (r ∷ rs) = let ih = total_ones rs in omega arith

-- how many rows there are after one is put in or taken out
pub length-put : {V : Type 0} (k : ℕ) (v : V) (rs : Rows V) → length (put k v rs) + share (λ _ _. 1) k (lookup rs k) ≡ length rs + 1
length-put k v rs = sym (ap (λ (n : ℕ). n + share (λ _ _. 1) k (lookup rs k)) (total_ones (put k v rs))) ∙ total-put (λ _ _. 1) k v rs ∙ ap (λ (n : ℕ). n + 1) (total_ones rs)

pub length_without : {V : Type 0} (k : ℕ) (rs : Rows V) → length (without k rs) + share (λ _ _. 1) k (lookup rs k) ≡ length rs
length_without k rs = sym (ap (λ (n : ℕ). n + share (λ _ _. 1) k (lookup rs k)) (total_ones (without k rs))) ∙ total-without (λ _ _. 1) k rs ∙ total_ones rs
