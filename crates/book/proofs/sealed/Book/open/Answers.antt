use Rattle.std.proofs.Common.{sym, subst}
use Rattle.ledger.specs.Reached.{Reached}
use Rattle.ledger.proofs.Reached.{lasting}
use Rattle.book.proofs.sealed.Book.open.Goals as goal

pub invariant_of-result : goal.invariant_of-result
invariant_of-result c = record { reached = subst Reached (sym c.open.ensures) (lasting.start _ _) }

pub returns : goal.returns
returns c = record { book = c.open.ensures; law = lasting.upheld _ (subst Reached (sym c.open.ensures) (lasting.start _ _)) }
