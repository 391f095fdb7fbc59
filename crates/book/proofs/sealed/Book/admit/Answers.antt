use Rattle.book.proofs.History.{answers}
use Rattle.book.proofs.sealed.Book.admit.Goals as goal

pub returns : goal.returns
returns c = answers _ c.args.self.now _ _ c.admit.ensures
