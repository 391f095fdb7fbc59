-- The book of the rules that tables hold.
use Rattle.std.specs.Prelude.{◌≡◌, ℕ, None, Ok, Err, Result}
use Rattle.registers.specs.Held.{rows_of, room_of}
use Rattle.terms.specs.declared.refusal.Refusal.{Refusal}
use Rattle.series.specs.declared.numbers.SeriesNumbers.{SeriesNumbers}
use Rattle.ledger.specs.Calls.{Series, Call, Pricing, Event}
use Rattle.ledger.specs.Book.{Spaces, Book}
use Rattle.ledger.specs.Judge.{Verdict}
use Rattle.ledger.specs.Runs.{judge, step}
use Rattle.tables.specs.declared.tables.Tables.{Tables}

abbrev pub spaces_of : Tables → Spaces
spaces_of t = record { accounts = room_of t.accounts; series = room_of t.series; positions = room_of t.positions }

abbrev pub model_of : Tables → Book
model_of t = record {
  family = t.family;
  spaces = spaces_of t;
  accounts = rows_of t.accounts;
  series = rows_of t.series;
  positions = rows_of t.positions;
  exchange = t.exchange;
}

-- A test by the rules that gives a value where it finds nothing to refuse.
abbrev pub Judges : {X : Type 0} → Verdict → (X → Type 0) → Result X Refusal → Type 0
Judges v P (Ok x) = (v ≡ Ok tt) × P x
Judges v P (Err e) = v ≡ Err e

-- a series by the numbers that offices send
abbrev pub numbers : ℕ → ℕ → ℕ → Series
numbers kind month strike = record { kind = kind; month = month; strike = strike }

abbrev pub numbered : SeriesNumbers → Series
numbered n = numbers n.kind n.month n.strike

-- a call that no tariff prices and that needs no scratch
abbrev pub unpriced : Pricing
unpriced s = None

abbrev pub bare : Call → Event
bare c = record { call = c; pricing = unpriced; scratch = 0 }

-- The answer to an event, and the tables after it, are those of the rules.
pub record Follows (e : Event) (before after : Tables) (r : Verdict) : Type 0 where
  pub answer : r ≡ judge (model_of before) e
  pub book : model_of after ≡ step (model_of before) e
