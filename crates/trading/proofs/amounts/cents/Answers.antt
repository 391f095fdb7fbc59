use Rattle.std.proofs.Common.{pos, ap, ◌∙◌}
use Rattle.trading.proofs.Products.{in_cents}
use Rattle.trading.proofs.amounts.cents.Goals as goal

pub overflow_mul-result-2 : goal.overflow_mul-result-2
overflow_mul-result-2 c =
    (in_cents c.args.family c.args.units c.from.result c.args.hundredths c.requires.units c.requires.hundredths (c.from.ensures ∙ ap pos c.cents_per_hundredth.ensures)
    ).fits

pub returns : goal.returns
returns c =
    let h = in_cents c.args.family c.args.units c.from.result c.args.hundredths c.requires.units c.requires.hundredths (c.from.ensures ∙ ap pos c.cents_per_hundredth.ensures) in
    record { value = h.value; bound = rw h.value h.bound }
