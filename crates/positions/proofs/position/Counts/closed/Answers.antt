use Rattle.std.proofs.Common.{arith}
use Rattle.std.proofs.lemmas.Int.{ints}
use Rattle.positions.proofs.Offsets.{taken_off, closed_as}
use Rattle.positions.proofs.position.Counts.closed.Goals as goal

pub invariant_of-result : goal.invariant_of-result
invariant_of-result c =
    let t = taken_off c.args.k c.args.self.fulls c.args.self.minis c.requires in
    record { few_fulls = omega (arith, ints); few_minis = omega (arith, ints) }

pub returns : goal.returns
returns c =
    let f = c.args.self.fulls in
    let m = c.args.self.minis in
    let t = taken_off c.args.k f m c.requires in
    closed_as c.args.k f m _ _ (omega (arith, ints)) (omega (arith, ints))
