use Rattle.std.proofs.Common.{refl}
use Rattle.ledger.proofs.Whole.{lawful}
use Rattle.ledger.proofs.laws.book_balances.Goals as goal

pub returns : goal.returns
returns c = record { answer = refl; law = lawful }
