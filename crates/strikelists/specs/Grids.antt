-- The step tables that lists are made of.
use Rattle.std.specs.Prelude.{◌≡◌, ℕ, ◌≤◌, true, List}
use Rattle.terms.specs.declared.steps.StepBand.{StepBand}
use Rattle.terms.specs.Steps.{step_in, joined}

-- A table that passes the test and has no step above 200, so that a strike plus a step fits its type.
pub record Grid (bands : List StepBand) : Type 0 where
  pub join : joined bands ≡ true
  pub small : (k : ℕ) → step_in bands k ≤ 200
