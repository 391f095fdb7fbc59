use Rattle.std.proofs.Common.{Ok, refl, rules}
use Rattle.registers.specs.Keys.{Found}
use Rattle.registers.specs.Held.{keys_of}
use Rattle.registers.proofs.Kept.{replaces}
use Rattle.registers.proofs.Lent.{lends}
use Rattle.registers.proofs.Same.{same_facts}
use Rattle.registers.proofs.keyed.Register.get_mut.Goals as goal

pub returns : goal.returns
returns g c =
    let r = c.args.self.now in
    let k = c.args.key in
    let i = c.in_ok-place.place in
    let s = c.get_mut.ensures in
    let f : Found (keys_of r) k (Ok i) = search rules in
    let same = same_facts r r _ r.even _ r.fits _ r.ascends in (
      (refl, (λ v. ((λ t. replaces r k i _ v f refl refl), refl)), same),
      record { writes_back = tt; facts = lends r k i c.get_mut.result s.item.0 s.value (search rules) },
    )
