use Rattle.std.proofs.Common.{◌≡◌, ◌+◌, ◌*◌, ◌∙◌, Err, refl, subst, arith}
use Rattle.std.proofs.lemmas.Result.{err_from_is_err_and}
use Rattle.std.proofs.lemmas.List.{take_rest, take_all}
use Rattle.script.specs.declared.numbers.Misread.TheVariants.{NotANumber, TooFine}
use Rattle.script.specs.Digits.{Numeral, value}
use Rattle.script.specs.Numbers.{Fitting}
use Rattle.script.proofs.Forms.{formless_front, formless_back, decimal_at, whole_points, fine_points}
use Rattle.script.proofs.OneReading.{only_reading}
use Rattle.script.proofs.numbers.hundredths.Goals as goal

pub returns-in_err-whole : goal.returns-in_err-whole
returns-in_err-whole c =
    let p = err_from_is_err_and c.from_residual.result c.from_residual.ensures.1 in
    let none = c.in_err-whole.ensures in
    rw (p.1, p.2, none.0) (only_reading _ (Err NotANumber) (formless_front _ _ _ c.point_place-point.ensures refl none.1))

pub returns-then-point-word : goal.returns-then-point-word
returns-then-point-word c =
    let w = c.args.word.now in
    let whole = c.in_ok-whole.whole in
    let same : whole.word.now ≡ w = c.in_ok-whole.ensures ∙ take_all _ w (omega arith) in
    only_reading w _ (whole_points w _ (subst Numeral same whole.numeral) (subst (λ t. Fitting (100 * value t + 0) c.in_hundredths.result) same c.in_hundredths.ensures))

pub returns-in_err-part : goal.returns-in_err-part
returns-in_err-part c =
    let p = err_from_is_err_and c.from_residual-in_err-part.result c.from_residual-in_err-part.ensures.1 in
    let none = c.in_err-part.ensures in
    let w = c.args.word.now in
    rw (p.1, p.2, none.0) (only_reading _ (Err NotANumber) (formless_back w _ _ c.point_place-point.ensures (omega arith) (take_rest w _) none.1))

pub returns-in_err-after_point : goal.returns-in_err-after_point
returns-in_err-after_point c =
    let p = err_from_is_err_and c.from_residual-in_err-after_point.result c.from_residual-in_err-after_point.ensures.1 in
    let fine = c.in_err-after_point.ensures in
    let w = c.args.word.now in
    let whole = c.in_ok-whole.whole in
    let part = c.in_ok-part.part in
    let form = decimal_at w whole.word.now part.word.now _ c.point_place-point.ensures (omega arith) c.in_ok-whole.ensures (c.in_ok-part.ensures ∙ take_rest w _) whole.numeral part.numeral in
    rw (p.1, p.2, fine.0) (only_reading _ (Err TooFine) (record { whole = whole.word.now; part = part.word.now; form = form; long = fine.1 }))

pub returns : goal.returns
returns c =
    let w = c.args.word.now in
    let whole = c.in_ok-whole.whole in
    let part = c.in_ok-part.part in
    let form = decimal_at w whole.word.now part.word.now _ c.point_place-point.ensures (omega arith) c.in_ok-whole.ensures (c.in_ok-part.ensures ∙ take_rest w _) whole.numeral part.numeral in
    let fine = c.in_ok-after_point.ensures in
    let r = c.in_hundredths-2.result in
    only_reading w r (fine_points w _ _ r form fine.0 (subst (λ x. Fitting (100 * value whole.word.now + x) r) fine.1 c.in_hundredths-2.ensures))
