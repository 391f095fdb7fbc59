use Rattle.std.proofs.Common.{refl}
use Rattle.ledger.proofs.Smaller.{offset_laws, event_laws}
use Rattle.ledger.proofs.laws.smaller_laws.Goals as goal

pub returns : goal.returns
returns c = record { answer = refl; offset = offset_laws; events = event_laws }
