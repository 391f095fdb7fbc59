use Rattle.std.proofs.lemmas.Slice.Zip.{either_empty_from_Zip}
use Rattle.settling.proofs.Turns.{over}
use Rattle.settling.proofs.lines.test_gains.Goals as goal

pub returns : goal.returns
returns c =
    let none = either_empty_from_Zip c.loop-key.key-iterator c.next.new.self c.next.result c.in-None.is c.next.ensures.steps in
    rw (over _ _ none) at c.loop-key.invariant
