use Rattle.std.proofs.Common.{arith}
use Rattle.std.proofs.lemmas.Grind.{common_steps}
use Rattle.ledger.specs.Judge as judging
use Rattle.entering.proofs.deltas.option_at.Goals as goal

pub returns : goal.returns
unfolding judging.need
returns c = (grind (arith, common_steps), record { has_key = grind (arith, common_steps); has_state = grind (arith, common_steps); there = grind (arith, common_steps) })
