use Rattle.book.proofs.History.{enters}
use Rattle.book.proofs.sealed.Book.enter.Goals as goal

pub returns : goal.returns
returns c = enters c.args.month c.args.fixing c.args.self.now _ _ c.enter.ensures
