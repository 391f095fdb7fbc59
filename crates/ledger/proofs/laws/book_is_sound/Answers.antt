use Rattle.std.proofs.Common.{refl}
use Rattle.ledger.proofs.Whole.{sound}
use Rattle.ledger.proofs.laws.book_is_sound.Goals as goal

pub returns : goal.returns
returns c = record { answer = refl; law = sound }
