-- What a list is asked for with.
use Rattle.std.specs.Prelude.{◌≡◌, ℕ, Ok, Err, Result}
use Rattle.terms.specs.declared.family.Family.{Family}
use Rattle.terms.specs.declared.price.Price.{Price}
use Rattle.terms.specs.declared.refusal.Reason.TheVariants.{OutOfRange}
use Rattle.terms.specs.declared.refusal.Refusal.{Refusal}
use Rattle.terms.specs.Refusals.{plain}
use Rattle.terms.specs.Families.{bands_of}
use Rattle.strikelists.specs.Lists.{Asked}
use Rattle.strikelists.specs.declared.grid.StrikeGrid.{StrikeGrid}

-- The strikes of the family and the level as a price, or 4.
abbrev pub AskedFor : ℕ → ℕ → Result (StrikeGrid × Price) Refusal → Type 0
AskedFor family level (Ok (grid, price)) =
    ((f : Family) × Asked family level f × (grid.steps.bands ≡ bands_of f)) × (price.hundredths ≡ level)
AskedFor family level (Err e) = ((f : Family) → Asked family level f → ⊥) × (e ≡ plain OutOfRange)
