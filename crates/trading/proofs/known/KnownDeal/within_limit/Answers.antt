use Rattle.std.proofs.Common.{rules}
use Rattle.trading.proofs.known.KnownDeal.within_limit.Goals as goal

pub returns : goal.returns
returns c = rw c.args.self.now.book.family_is (search rules)
