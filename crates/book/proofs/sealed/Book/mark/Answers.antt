use Rattle.ledger.proofs.Reached.{lasting}
use Rattle.book.proofs.History.{onward, answers}
use Rattle.book.proofs.sealed.Book.mark.Goals as goal

pub invariant_of-self : goal.invariant_of-self
invariant_of-self c =
    let h = c.args.self.now.reached in
    record { reached = onward _ c.args.self.now.tables _ _ h (c.mark.ensures (lasting.sound _ h) (lasting.owned _ h)) }

pub returns : goal.returns
returns c =
    let h = c.args.self.now.reached in
    answers _ c.args.self.now _ _ (c.mark.ensures (lasting.sound _ h) (lasting.owned _ h))
