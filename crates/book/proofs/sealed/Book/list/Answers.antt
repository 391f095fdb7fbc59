use Rattle.std.proofs.Common.{rules}
use Rattle.ledger.specs.Calls.{list}
use Rattle.tables.specs.Model.{bare, Follows, numbered}
use Rattle.book.proofs.History.{answers}
use Rattle.book.proofs.sealed.Book.list.Goals as goal

pub returns : goal.returns
returns c =
    let f : Follows (bare (list (numbered c.args.numbers) c.args.first)) c.args.self.now.tables c.list.new.tables c.list.result = search rules in
    answers _ c.args.self.now _ _ f
