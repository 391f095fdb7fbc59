use Rattle.std.proofs.Common.{◌-◌}
use Rattle.registers.proofs.Windows.{Window}
use Rattle.registers.proofs.seek.count_below.Given as goal

abbrev pub invariant-loop-size : goal.invariant-loop-size
invariant-loop-size l = Window l.keys l.fn.key l.base l.size

abbrev pub decreases-loop-size : goal.decreases-loop-size
decreases-loop-size l = l.size

abbrev pub invariant-loop : goal.invariant-loop
invariant-loop l = Window l.keys l.fn.key l.base (l.size - l.counter)
