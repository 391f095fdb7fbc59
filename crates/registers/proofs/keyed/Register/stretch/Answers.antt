use Rattle.std.proofs.Common.{sym, ap, ◌∙◌, arith}
use Rattle.std.specs.List.{between}
use Rattle.registers.specs.Stretches.{StretchAt}
use Rattle.registers.specs.Held.{rows_of}
use Rattle.registers.proofs.Always.{contents_are}
use Rattle.registers.proofs.Stretches.{length_front, length-stretch, below_onwards, onwards_none}
use Rattle.registers.proofs.Spans.{ends, left, contents_held}
use Rattle.registers.proofs.keyed.Register.stretch.Goals as goal

pub returns-then-b-a : goal.returns-then-b-a
returns-then-b-a g c =
    let r = c.args.self.now in
    let rs = rows_of r in
    let a = c.args.a in
    let b = c.args.b in
    let from = c.lower_bound-from.result in
    let x = length-stretch a b rs in
    let y = onwards_none a b rs c.if-b-a.true in
    let p : StretchAt a b rs from from = record { first = c.lower_bound-from.ensures ∙ sym (length_front a rs); last = omega arith } in
    let h = ends a b rs from from p in
    record { places = p; left = left a b rs from from p; held = ap (between from from) (sym (contents_are r)) ∙ contents_held r a b from from p; forward = h.0; within = h.1 }

pub returns : goal.returns
returns g c =
    let r = c.args.self.now in
    let rs = rows_of r in
    let a = c.args.a in
    let b = c.args.b in
    let from = c.lower_bound-from.result in
    let to = c.lower_bound.result in
    let l = c.if-b-a.false in
    let x = length-stretch a b rs in
    let y = c.lower_bound.ensures ∙ below_onwards a b rs (omega arith) in
    let p : StretchAt a b rs from to = record { first = c.lower_bound-from.ensures ∙ sym (length_front a rs); last = omega (arith, c.lower_bound-from.ensures) } in
    let h = ends a b rs from to p in
    record { places = p; left = left a b rs from to p; held = ap (between from to) (sym (contents_are r)) ∙ contents_held r a b from to p; forward = h.0; within = h.1 }
