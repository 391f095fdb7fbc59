use Rattle.std.proofs.Common.{refl}
use Rattle.ledger.proofs.Figures.{figures, refusals, afterwards_figures}
use Rattle.ledger.proofs.laws.worked_histories.Goals as goal

pub returns : goal.returns
returns c = record { answer = refl; worked = figures; refused = refusals; left = afterwards_figures }
