use Rattle.std.proofs.Common.{arith}
use Rattle.strikelists.proofs.NextRun.{next_run}
use Rattle.strikelists.proofs.runs.RunsIterator.next.Goals as goal

pub invariant_of-self : goal.invariant_of-self
invariant_of-self c = record { ends = (next_run c.args.self.now.left.ends (omega arith) c.step_at.ensures c.run_end.ensures).rest }

pub invariant_of-run : goal.invariant_of-run
invariant_of-run c = record { even = (next_run c.args.self.now.left.ends (omega arith) c.step_at.ensures c.run_end.ensures).even }
