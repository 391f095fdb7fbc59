use Rattle.book.proofs.History.{answers}
use Rattle.book.proofs.sealed.Book.close.Goals as goal

pub returns : goal.returns
returns c = answers _ c.args.self.now _ _ c.close.ensures
