use Rattle.std.proofs.Common.{◌≡◌, ◌+◌, ◌≤◌, ◌++◌, length, rules, arith}
use Rattle.std.proofs.lemmas.Grind.{common_steps}
use Rattle.strikelists.specs.Runs.{above, rungs_of}
use Rattle.strikelists.proofs.Counts.{length-rungs_of}
use Rattle.strikelists.proofs.Filled.{filled_none, filled_more, filled_all}
use Rattle.strikelists.proofs.Stretches.{lowest}
use Rattle.strikelists.proofs.span.Span.fill.Goals as goal

pub loop-run-init : goal.loop-run-init
loop-run-init c =
    let span = c.args.self.now in
    let at : above c.into_iter-run-iterator.result.left ≡ above span = cc in
    (tt, tt, rw at (filled_none (lowest span) c.requires))

pub slice_bounds-write-end : goal.slice_bounds-write-end
slice_bounds-write-end c =
    let e : above c.loop-run.run-iterator.left ≡ rungs_of c.in-Some.run' ++ above c.next.new.self.left = search rules in
    let n : c.loop-run.count + c.rungs.result ≤ length c.loop-run.out =
    grind (arith, common_steps, c.loop-run.invariant.2.so_far, e, length-rungs_of c.in-Some.run') in
    search rules

pub loop-run-preserved : goal.loop-run-preserved
loop-run-preserved c =
    let e : above c.loop-run.run-iterator.left ≡ rungs_of c.in-Some.run' ++ above c.next.new.self.left = search rules in
    let g = rw e at c.loop-run.invariant.2 in
    (tt, tt, rw c.write.ensures (filled_more (rungs_of c.in-Some.run') g (grind (arith, common_steps)) (omega (arith, length-rungs_of c.in-Some.run', c.rungs.ensures)) (omega arith)))

pub returns : goal.returns
returns c = filled_all c.loop-run.invariant.2 (search rules)
