-- A book that follows the rules goes on having a history, and so the law.
use Rattle.std.proofs.Common.{ℕ, Ok, Err, Result, sym, subst}
use Rattle.terms.specs.declared.refusal.Refusal.{Refusal}
use Rattle.fixings.specs.declared.closed.ClosedFixing.{ClosedFixing}
use Rattle.ledger.specs.Calls.{Event}
use Rattle.ledger.specs.Judge.{Verdict}
use Rattle.ledger.specs.Reached.{Reached}
use Rattle.ledger.proofs.Reached.{lasting}
use Rattle.tables.specs.declared.tables.Tables.{Tables}
use Rattle.tables.specs.Model.{model_of, Follows}
use Rattle.entering.specs.Entered as entered
use Rattle.book.specs.declared.sealed.Book.{Book}
use Rattle.book.specs.Sealed.{Law, Answers, Enters}

pub onward : (e : Event) (t u : Tables) (r : Verdict) → Reached (model_of t) → Follows e t u r → Reached (model_of u)
onward e t u r h f = subst Reached (sym f.book) (lasting.onward (model_of t) e h)

pub upheld : (b : Book) → Law b
upheld b = lasting.upheld (model_of b.tables) b.reached

pub answers : (e : Event) (b c : Book) (r : Verdict) → Follows e b.tables c.tables r → Answers e b c r
answers e b c r f = record { answer = f.answer; book = f.book; law = upheld c }

-- ---- enter
pub entered_onward : (month : ℕ) (fixing : ClosedFixing) (t u : Tables) (r : Result (Unit {0}) (Refusal × ClosedFixing))
    → Reached (model_of t) → entered.Enters month fixing t u r → Reached (model_of u)
entered_onward month fixing t u (Ok tt) h f = onward (entered.entering month fixing) t u (Ok tt) h f
entered_onward month fixing t u (Err back) h f = onward (entered.entering month fixing) t u (Err back.0) h f.0

pub enters : (month : ℕ) (fixing : ClosedFixing) (b c : Book) (r : Result (Unit {0}) (Refusal × ClosedFixing))
    → entered.Enters month fixing b.tables c.tables r → Enters month fixing b c r
enters month fixing b c (Ok tt) f = answers (entered.entering month fixing) b c (Ok tt) f
enters month fixing b c (Err back) f = (answers (entered.entering month fixing) b c (Err back.0) f.0, f.1)
