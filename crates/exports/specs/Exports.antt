-- What a caller from another language is told.
use Rattle.std.specs.Prelude.{◌≡◌, ℕ, List, Result}
use Rattle.std.specs.Result.{result_unwrap_or}
use Rattle.terms.specs.declared.refusal.Refusal.{Refusal}
use Rattle.strikelists.specs.Lists.{ListAnswer}

-- The space holds what the strike list's call leaves, and n is its count, or 0 for a refusal.
pub record Counted (family level : ℕ) (old new : List ℕ) (n : ℕ) : Type 0 where
  pub answer : Result ℕ Refusal
  pub list : ListAnswer family level old new answer
  pub count : n ≡ result_unwrap_or answer 0
