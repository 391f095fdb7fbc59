use Rattle.strikelists.specs.Runs.{strikes_of, above}
use Rattle.strikelists.proofs.Filled.{Filled}
use Rattle.strikelists.proofs.span.Span.fill.Given as goal

abbrev pub invariant-loop-run : goal.invariant-loop-run
invariant-loop-run l =
    (goal.iterator-loop-run).can_next l.run-iterator
    × (goal.iterator-loop-run).is_finite l.run-iterator
    × Filled (strikes_of l.self) (above l.run-iterator.left) l.count l.fn.out l.out
