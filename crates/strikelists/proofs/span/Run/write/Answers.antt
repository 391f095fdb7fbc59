use Rattle.std.proofs.Common.{◌+◌, ◌*◌, suc, arith}
use Rattle.std.proofs.lemmas.List.FromFn.{fill_by_all}
use Rattle.strikelists.specs.Runs.{rungs_in}
use Rattle.strikelists.proofs.span.Run.write.Goals as goal

pub returns : goal.returns
returns c =
    let run = c.args.self.now in
    fill_by_all (λ i. run.from + suc i * run.step) c.loop-place.part (rungs_in run) 0 (omega arith) (λ k h. c.loop-place.invariant.1 k (omega arith))
