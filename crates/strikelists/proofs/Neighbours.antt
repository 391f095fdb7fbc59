-- The strikes next to a point.
use Rattle.std.proofs.Common.{◌≡◌, ℕ, ◌+◌, ◌-◌, ◌%◌, ◌<◌, ◌≤◌, List, arith}
use Rattle.terms.specs.declared.steps.StepBand.{StepBand}
use Rattle.terms.specs.Steps.{step_in, Listed}
use Rattle.terms.proofs.Grid as grid
use Rattle.strikelists.specs.Grids.{Grid}

module _ (bands : List StepBand) (x s : ℕ) (g : Grid bands) (e : s ≡ step_in bands x) where
  pub rises : 0 < s
  rises = omega (arith, e, grid.rises bands g.join x)

  pub floor_on : 0 < x - x % s → Listed bands (x - x % s)
  floor_on p = record { some = p; whole = rw e (grid.floor_on bands g.join x) }

  pub floor_most : (k : ℕ) → Listed bands k → k ≤ x → k ≤ x - x % s
  floor_most k l le = rw e (grid.floor_most bands g.join x k l.whole le)

  pub ceil_near : (x - x % s) + s ≤ x + 200
  ceil_near = omega (arith, e, g.small x)

  pub ceil_on : 0 < x → Listed bands ((x - x % s) + s)
  ceil_on p = record { some = omega (arith, rises); whole = rw e (grid.ceil_on bands g.join x) }

  pub ceil_least : (k : ℕ) → Listed bands k → x - x % s < k → (x - x % s) + s ≤ k
  ceil_least k l above = rw e (grid.ceil_least bands g.join x k l.whole (rw (← e) above))

-- what gives the greatest strike at or below x, and the least above it
pub ruleset floors = (rises, floor_on, floor_most)

pub ruleset ceilings = (rises, ceil_near, ceil_on, ceil_least)
