use Rattle.std.proofs.Common.{◌+◌, arith}
use Rattle.std.proofs.lemmas.Result.{err_from_is_err_and}
use Rattle.script.proofs.Values.{value_take_le, value_more, value_all, larger_too}
use Rattle.script.proofs.digits.Digits.value.Goals as goal

pub returns-in_err-number : goal.returns-in_err-number
returns-in_err-number c =
    let p = err_from_is_err_and c.from_residual.result c.from_residual.ensures.1 in
    let w = c.args.self.word.now in
    let i = c.loop-digit.digit-index in
    rw (p.1, p.2) (larger_too _ _ _ (omega (arith, value_more w i c.loop-digit-test.true, value_take_le w (i + 1))) c.in_err-number.ensures)

pub returns : goal.returns
returns c =
    let all = value_all c.args.self.word.now c.loop-digit.digit-index c.loop-digit-test.false in
    (omega arith, omega arith)
