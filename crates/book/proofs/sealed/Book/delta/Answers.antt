use Rattle.std.proofs.Common.{rules}
use Rattle.ledger.specs.Calls.{delta}
use Rattle.tables.specs.Model.{bare, Follows, numbered}
use Rattle.book.proofs.History.{answers}
use Rattle.book.proofs.sealed.Book.delta.Goals as goal

pub returns : goal.returns
returns c =
    let f : Follows (bare (delta (numbered c.args.numbers) c.args.value)) c.args.self.now.tables c.delta.new.tables c.delta.result = search rules in
    answers _ c.args.self.now _ _ f
