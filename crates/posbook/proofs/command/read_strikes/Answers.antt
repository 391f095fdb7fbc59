use Rattle.std.proofs.Common.{Some, None, refl, ◌∙◌}
use Rattle.posbook.proofs.Saying.{read, strikes_behind}
use Rattle.posbook.proofs.command.read_strikes.Goals as goal

pub returns-in-None : goal.returns-in-None
returns-in-None c =
    let line = c.args.words.line in
    let start = c.args.words.at in
    let a = c.next.new.self.at in
    let b = c.next-2.new.self.at in
    let e = c.next-3.new.self.at in
    let one = c.next.ensures.steps in
    let two = c.next-2.ensures.steps in
    let end = c.in-None.ensures.steps in
    let v = c.in_ok-first.first in
    let w = c.in_ok-second.second in
    strikes_behind line.now start a b e v.now w.now c.in_ok-family.family c.in_ok-level.level
    (read line start a (Some v) refl c.in_ok-first.ensures.ok_part one.1)
    (read line a b (Some w) one.0 c.in_ok-second.ensures.ok_part two.1)
    (read line b e None (two.0 ∙ one.0) refl end.1)
    c.in_ok-family.ensures c.in_ok-level.ensures
