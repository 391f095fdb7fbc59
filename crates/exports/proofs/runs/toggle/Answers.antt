use Rattle.std.proofs.Common.{ℕ, arith}
use Rattle.std.proofs.lemmas.Grind.{common_steps}
use Rattle.registers.proofs.OneRow.{without_absent}
use Rattle.exports.proofs.runs.toggle.Goals as goal
use Rattle.exports.proofs.runs.toggle.Goals.{in-Some, in-None}

pub loop-key-preserved : goal.loop-key-preserved
loop-key-preserved c =
    elim c.match-take.branch [
      | in-Some w ↦ grind (arith, common_steps)
      | in-None w ↦ grind (arith, common_steps, without_absent {V = ℕ})
    ]
