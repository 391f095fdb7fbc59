use Rattle.std.proofs.lemmas.Result.{err_from_is_err_and}
use Rattle.std.proofs.Common.{arith}
use Rattle.std.proofs.lemmas.Grind.{common_steps}
use Rattle.ledger.specs.Judge as judging
use Rattle.trading.specs.Parts.{asked}
use Rattle.tables.proofs.Doors.{numbered_out}
use Rattle.trading.proofs.door.deal.Goals as goal

pub returns-in_err-series : goal.returns-in_err-series
unfolding judging.need asked
returns-in_err-series c =
    let p = err_from_is_err_and c.from_residual.result c.from_residual.ensures.1 in
    let h = c.in_err-series.ensures in
    let s = c.args.trade.series in
    let out = numbered_out c.args.family s.kind s.month s.strike h.0 in
    rw (p.1, p.2) (grind (arith, common_steps, out, h.1))
