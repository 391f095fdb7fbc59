use Rattle.std.proofs.Common.{◌+◌, ◌/◌, arith, rules}
use Rattle.registers.proofs.Windows.{quartered}
use Rattle.registers.proofs.seek.count_below.Goals as goal

pub loop-size-preserved : goal.loop-size-preserved
loop-size-preserved c =
    let l = c.loop-size in
    quartered c.args.keys.now c.args.key l.base l.size ((l.size + 1) / 4) c.requires l.invariant (omega arith) (omega arith) c.less-in-loop-size.result c.less-in-loop-size-2.result c.less-in-loop-size-3.result (search rules) (search rules) (search rules)
