-- A fixing entered for a month.
use Rattle.std.specs.Prelude.{◌≡◌, ℕ, ℤ, true, Ok, Err, Result}
use Rattle.terms.specs.declared.refusal.Refusal.{Refusal}
use Rattle.terms.specs.Families.{family_number}
use Rattle.fixings.specs.declared.closed.ClosedFixing.{ClosedFixing}
use Rattle.positions.specs.Keys.{future_key}
use Rattle.ledger.specs.Book.{value_at}
use Rattle.ledger.specs.Calls.{Event, enter}
use Rattle.ledger.specs.Rows.{present}
use Rattle.tables.specs.declared.tables.Tables.{Tables}
use Rattle.tables.specs.Model.{model_of, bare, Follows}
use Rattle.entering.specs.declared.keyed.Keyed.{Keyed}

-- the future of the month is listed, with this key and mark
pub record FutureAt (t : Tables) (month : ℕ) (f : Keyed ℤ) : Type 0 where
  pub has_key : f.key ≡ future_key month
  pub has_mark : f.value ≡ value_at (model_of t) (future_key month)
  pub there : present (model_of t).series (future_key month) ≡ true

abbrev pub entering : ℕ → ClosedFixing → Event
entering month fixing = bare (enter month (family_number fixing.family) fixing.price.hundredths)

-- by the rules; a refusal gives the fixing back as it was
abbrev pub Enters : ℕ → ClosedFixing → Tables → Tables → Result (Unit {0}) (Refusal × ClosedFixing) → Type 0
Enters month fixing before after (Ok _) = Follows (entering month fixing) before after (Ok tt)
Enters month fixing before after (Err back) = Follows (entering month fixing) before after (Err back.0) × (back.1 ≡ fixing)
