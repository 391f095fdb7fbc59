-- The fees of two sides, and the test of their rates.
use Rattle.std.proofs.Common.{◌≡◌, ℕ, [], ◌∷◌, Some, None, Ok, Err, Option, Result, sym, refl, ap, arith}
use Rattle.terms.specs.declared.refusal.Refusal.{Refusal}
use Rattle.tariffs.specs.declared.side.Side.{Side}
use Rattle.charges.specs.Fees.{rated, pair, unless, rated_both, rated_all}

first : Result (ℕ × ℕ) Refusal → ℕ
first (Ok p) = p.0
first (Err e) = 0

second : Result (ℕ × ℕ) Refusal → ℕ
second (Ok p) = p.1
second (Err e) = 0

module _ (p : Side → Option ℕ) (x y : Side) where
  pub both_rated : (f g : ℕ) → Ok (f, g) ≡ rated_both p x y → (p x ≡ Some f) × (p y ≡ Some g)
  unfolding first second
  both_rated f g e = ways (p x) (p y) e
    where
      ways : (u v : Option ℕ) → Ok (f, g) ≡ pair (rated u x.account) (rated v y.account) → (u ≡ Some f) × (v ≡ Some g)
      ways None v h = absurd (let z : ◌≡◌ {A = ℕ} 0 1 = cc in omega arith)
      ways (Some u) None h = absurd (let z : ◌≡◌ {A = ℕ} 0 1 = cc in omega arith)
      ways (Some u) (Some v) h = (ap (λ r. Some (first r)) (sym h), ap (λ r. Some (second r)) (sym h))

  pub all_rated : (f g : ℕ) → p x ≡ Some f → p y ≡ Some g → rated_all p (x ∷ y ∷ []) ≡ Ok tt
  all_rated f g e h = rw (e, h) refl

  pub one_unrated : (e : Refusal) → Err e ≡ rated_both p x y → rated_all p (x ∷ y ∷ []) ≡ Err e
  one_unrated e h = ways (p x) (p y) h
    where
      ways : (u v : Option ℕ) → Err e ≡ pair (rated u x.account) (rated v y.account) → unless (rated u x.account) (unless (rated v y.account) (Ok tt)) ≡ Err e
      ways None v h = cc
      ways (Some u) None h = cc
      ways (Some u) (Some v) h = absurd (let z : ◌≡◌ {A = ℕ} 0 1 = cc in omega arith)
