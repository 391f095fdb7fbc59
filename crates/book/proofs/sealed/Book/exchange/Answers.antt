use Rattle.std.proofs.Common.{w64, SFits, rules}
use Rattle.std.proofs.lemmas.Int.{to_z-of_z}
use Rattle.book.proofs.History.{upheld}
use Rattle.book.proofs.sealed.Book.exchange.Goals as goal

pub returns : goal.returns
returns c =
    let z : SFits w64 c.args.self.now.tables.exchange = search rules in
    record { value = to_z-of_z w64 c.args.self.now.tables.exchange z; law = upheld c.args.self.now }
