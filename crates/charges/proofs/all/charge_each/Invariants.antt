use Rattle.std.proofs.Common.{◌≡◌, take, fold}
use Rattle.charges.proofs.all.charge_each.Given as goal

abbrev pub invariant-loop-side : goal.invariant-loop-side
invariant-loop-side g l = l.tariff ≡ fold g.T.Tariff.after l.initial.tariff (take l.side-index l.sides)
