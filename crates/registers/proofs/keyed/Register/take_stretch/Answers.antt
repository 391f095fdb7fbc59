use Rattle.std.proofs.Common.{◌≤◌, length, ◌∙◌, ap₂, arith}
use Rattle.std.specs.List.{zip}
use Rattle.registers.specs.Held.{keys_of, contents_of, rows_of}
use Rattle.registers.proofs.Always.{count_keys, level}
use Rattle.registers.proofs.Cuts.{zipped_cut}
use Rattle.registers.proofs.keyed.Register.take_stretch.Goals as goal

pub returns-clause-rows : goal.returns-clause-rows
unfolding rows_of
returns-clause-rows g c =
    let r = c.args.self.now in
    let s = c.stretch-from.result in
    let e = c.stretch-from.ensures in
    let k : s.from ≤ length (keys_of r) = omega (arith, count_keys r, e.forward, e.within) in
    ap₂ zip c.cut.ensures.items c.cut-2.ensures.items ∙ zipped_cut (keys_of r) (contents_of r) s.from s.to (level r) k ∙ e.left
