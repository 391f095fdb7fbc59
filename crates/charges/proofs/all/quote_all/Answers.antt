use Rattle.charges.proofs.Steps.{all_bounded}
use Rattle.charges.proofs.all.quote_all.Goals as goal

pub returns-clause-bound : goal.returns-clause-bound
returns-clause-bound g c = all_bounded _ (g.met.T.Tariff.bound c.args.tariff.now) c.args.sides.now c.write_fees.result
