use Rattle.book.proofs.History.{answers}
use Rattle.book.proofs.sealed.Book.trade.Goals as goal

pub returns : goal.returns
returns g c = record {
  call = answers _ c.args.self.now _ _ c.trade.ensures.follows;
  standing = c.trade.ensures.standing;
}
