use Rattle.std.proofs.Common.{Ok, sym, subst, rules}
use Rattle.registers.specs.Keys.{Ascending, Found}
use Rattle.registers.specs.Held.{keys_of}
use Rattle.registers.proofs.Order.{ascending_removed}
use Rattle.registers.proofs.keyed.Register.take.Goals as goal

pub invariant_of-self-clause-ascends : goal.invariant_of-self-clause-ascends
invariant_of-self-clause-ascends g c =
    let r = c.args.self.now in
    let i = c.in_ok-place.place in
    let f : Found (keys_of r) c.args.key (Ok i) = search rules in
    subst Ascending (sym c.remove.ensures.items) (ascending_removed (keys_of r) i r.ascends f.0)
