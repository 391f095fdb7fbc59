-- What two strikes keep between which a list goes, and what a run of strikes does that lie one step apart.
use Rattle.std.specs.Prelude.{◌≡◌, ℕ, ◌-◌, ◌%◌, ◌<◌, ◌≤◌, List}
use Rattle.terms.specs.declared.steps.StepBand.{StepBand}
use Rattle.terms.specs.Steps.{Listed}
use Rattle.strikelists.specs.Grids.{Grid}

pub record Ends (bands : List StepBand) (low high : ℕ) : Type 0 where
  pub grid : Grid bands
  pub from : Listed bands low
  pub to : Listed bands high
  pub order : low ≤ high
  pub most : high ≤ 200000

-- The step divides the way.
pub record EvenRun (from step end : ℕ) : Type 0 where
  pub positive : 0 < step
  pub order : from < end
  pub whole : (end - from) % step ≡ 0
