-- How a number that an office sends becomes a value of a type.
use Rattle.std.specs.Prelude.{◌≡◌, ℕ, Ok, Err, Result}
use Rattle.terms.specs.declared.refusal.Reason.TheVariants.{OutOfRange}
use Rattle.terms.specs.declared.refusal.Refusal.{Refusal}
use Rattle.terms.specs.Refusals.{plain}

-- A number in range becomes the value that has this number; any other is refused by 4.
abbrev pub Numbered : {V : Type 0} → (ℕ → Type 0) → (V → ℕ) → ℕ → Result V Refusal → Type 0
Numbered Range number n (Ok v) = Range n × (number v ≡ n)
Numbered Range number n (Err e) = (Range n → ⊥) × (e ≡ plain OutOfRange)
