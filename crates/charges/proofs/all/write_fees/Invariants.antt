use Rattle.std.proofs.Common.{◌≡◌, ◌++◌, take, drop}
use Rattle.charges.specs.Fees.{fees_of, rated_all}
use Rattle.charges.proofs.all.write_fees.Given as goal

-- the fees so far are written, and the others are still to come
abbrev pub invariant-loop-i : goal.invariant-loop-i
invariant-loop-i g l =
    let price = g.T.Tariff.price l.tariff in
    (fees_of price l.sides ≡ take l.i l.fees ++ fees_of price (drop l.i l.sides))
    × (rated_all price l.sides ≡ rated_all price (drop l.i l.sides))
    × (drop l.i l.fees ≡ drop l.i l.initial.fees)
