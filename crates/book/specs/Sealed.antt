-- What a call on a book promises: the answer and the book after it by the rules, and the law of whole runs.
use Rattle.std.specs.Prelude.{◌≡◌, ℕ, Ok, Err, Result}
use Rattle.terms.specs.declared.refusal.Refusal.{Refusal}
use Rattle.fixings.specs.declared.closed.ClosedFixing.{ClosedFixing}
use Rattle.ledger.specs.Book as model
use Rattle.ledger.specs.Calls.{Event}
use Rattle.ledger.specs.Judge.{Verdict}
use Rattle.ledger.specs.Reached.{Upheld}
use Rattle.ledger.specs.Runs.{judge, step}
use Rattle.tables.specs.Model.{model_of}
use Rattle.entering.specs.Entered.{entering}
use Rattle.book.specs.declared.sealed.Book.{Book}

-- the book of the rules
abbrev pub book_of : Book → model.Book
book_of b = model_of b.tables

-- some history leads to the book, and it is balanced and limited
abbrev pub Law : Book → Type 0
Law b = ∥ Upheld (book_of b) ∥₁

pub record Answers (e : Event) (before after : Book) (r : Verdict) : Type 0 where
  pub answer : r ≡ judge (book_of before) e
  pub book : book_of after ≡ step (book_of before) e
  pub law : Law after

-- a refusal gives the fixing back as it was
abbrev pub Enters : ℕ → ClosedFixing → Book → Book → Result (Unit {0}) (Refusal × ClosedFixing) → Type 0
Enters month fixing before after (Ok _) = Answers (entering month fixing) before after (Ok tt)
Enters month fixing before after (Err back) = Answers (entering month fixing) before after (Err back.0) × (back.1 ≡ fixing)
