-- Positions by the sign of their counts.
use Rattle.std.proofs.Common.{◌≡◌, ℕ, zero, suc, ◌/◌, ◌≤◌, min, ◌⊎◌, ℤ, pos, negsuc, ◌+ℤ◌, ◌-ℤ◌, ◌*ℤ◌, neg_ℤ, nat_abs, ◌≤ℤ◌, ◌<ℤ◌, refl, inl, inr, arith}
use Rattle.std.proofs.lemmas.Int.{ints}
use Rattle.positions.specs.Positions.{position, opposed, signed_like, closed}

abs_neg : (n : ℕ) → nat_abs (neg_ℤ (pos n)) ≡ n
abs_neg zero = refl
abs_neg (suc n) = refl

-- what may be taken off leaves no count farther from zero
pub record TakenOff (k : ℕ) (f m : ℤ) : Type 0 where
  pub fulls : nat_abs (f -ℤ signed_like f k) ≤ nat_abs f
  pub minis : nat_abs (m +ℤ pos 5 *ℤ signed_like f k) ≤ nat_abs m

pub taken_off : (k : ℕ) (f m : ℤ) → k ≤ nat_abs (opposed f m) → TakenOff k f m
taken_off k (pos f) (pos m) h = record { fulls = omega (arith, ints); minis = omega (arith, ints) }
taken_off k (pos f) (negsuc m) h = record { fulls = omega (arith, ints); minis = omega (arith, ints) }
taken_off k (negsuc f) (negsuc m) h = record { fulls = omega (arith, ints); minis = omega (arith, ints) }
taken_off k (negsuc f) (pos m) h =
    let e = abs_neg (min (suc f) (m / 5)) in
    record { fulls = omega (arith, ints); minis = omega (arith, ints) }

pub closed_as : (k : ℕ) (f m a b : ℤ) → a ≡ f -ℤ signed_like f k → b ≡ m +ℤ pos 5 *ℤ signed_like f k → position a b ≡ closed k (position f m)
closed_as k f m a b p q = λ i. position (p i) (q i)

-- fulls sold are at least as many as what can be taken off against minis bought
pub short_fulls : (k : ℕ) (f m : ℤ) → f <ℤ pos 0 → k ≤ nat_abs (opposed f m) → (f +ℤ pos k) ≤ℤ pos 0
short_fulls k (pos f) m n h = absurd (omega (arith, ints))
short_fulls k (negsuc f) (negsuc m) n h = omega (arith, ints)
short_fulls k (negsuc f) (pos m) n h = let e = abs_neg (min (suc f) (m / 5)) in omega (arith, ints)

pub short_minis : (k : ℕ) (f m : ℤ) → f <ℤ pos 0 → k ≤ nat_abs (opposed f m) → (k ≡ 0) ⊎ ((pos 5 *ℤ pos k) ≤ℤ m)
short_minis k (pos f) m n h = absurd (omega (arith, ints))
short_minis k (negsuc f) (negsuc m) n h = inl (omega arith)
short_minis k (negsuc f) (pos m) n h = let e = abs_neg (min (suc f) (m / 5)) in inr (omega (arith, ints))
