use Rattle.std.proofs.Common.{ap, ◌∙◌, ap₂, arith, w32, SFits, rules}
use Rattle.ledger.specs.Book.{weight, delta_at}
use Rattle.tables.specs.Model.{model_of}
use Rattle.trading.proofs.Products.{weighed}
use Rattle.trading.proofs.deltas.weighs.Goals as goal

pub returns : goal.returns
returns c =
    let u = c.units.result in
    let d = c.delta_at.result in
    let fd : SFits w32 d = search rules in
    let w = weighed u d c.from.result c.from-2.result c.units.ensures.bound fd c.from.ensures c.from-2.ensures in
    record {
      value = w.0 ∙ ap₂ weight c.units.ensures.value (c.delta_at.ensures ∙ ap (delta_at (model_of c.args.tables.now)) c.series_of_key.ensures);
      bound = rw w.0 (omega (arith, w.1));
    }
