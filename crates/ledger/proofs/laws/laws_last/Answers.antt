use Rattle.std.proofs.Common.{refl}
use Rattle.ledger.proofs.Reached.{lasting}
use Rattle.ledger.proofs.laws.laws_last.Goals as goal

pub returns : goal.returns
returns c = record { answer = refl; law = lasting }
