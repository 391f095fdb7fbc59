use Rattle.std.proofs.lemmas.Slice.Zip.{either_empty_from_Zip}
use Rattle.settling.proofs.Turns.{over}
use Rattle.settling.proofs.lines.post_gains.Goals as goal

pub returns-clause-rows : goal.returns-clause-rows
returns-clause-rows c =
    let none = either_empty_from_Zip c.loop-key.key-iterator c.next.new.self c.next.result c.in-None.is c.next.ensures.steps in
    rw (over _ _ none) at c.loop-key.invariant.0
