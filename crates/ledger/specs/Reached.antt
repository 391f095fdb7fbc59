-- The laws in the form that a type's invariant needs: a book that some list of events leads to.
use Rattle.std.specs.Prelude.{◌≡◌, ℕ, ◌<◌, List, [], ◌++◌}
use Rattle.ledger.specs.Calls.{Event}
use Rattle.ledger.specs.Book.{Spaces, Book, opened}
use Rattle.ledger.specs.Runs.{step, run}
use Rattle.ledger.specs.Laws.{journal, Balanced, AllQuiet, Limited}
use Rattle.ledger.specs.Sound.{Sound, Owned}

-- an opening and events that lead to the book
pub record History (b : Book) : Type 0 where
  pub family : ℕ
  pub spaces : Spaces
  pub events : List Event
  pub leads : b ≡ run (opened family spaces) events

abbrev pub Reached : Book → Type 0
Reached b = ∥ History b ∥₁

-- a history of the book, with the law
pub record Upheld (b : Book) : Type 0 where
  pub history : History b
  pub balanced : Balanced b (journal (opened history.family history.spaces) history.events [])
  pub limited : (es fs : List Event) → es ++ fs ≡ history.events → AllQuiet fs → (a : ℕ) → a < 65536
      → Limited history.family a (journal (opened history.family history.spaces) es []) (journal (opened history.family history.spaces) history.events [])

pub record Lasting : Type 0 where
  pub start : (f : ℕ) (z : Spaces) → Reached (opened f z)
  pub onward : (b : Book) (e : Event) → Reached b → Reached (step b e)
  pub upheld : (b : Book) → Reached b → ∥ Upheld b ∥₁
  pub sound : (b : Book) → Reached b → Sound b
  pub owned : (b : Book) → Reached b → Owned b
