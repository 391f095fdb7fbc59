use Rattle.std.proofs.Common.{◌≡◌, sum, arith, rules}
use Rattle.fixings.specs.Finals.{in_hundredths}
use Rattle.fixings.proofs.Means.{sum_most}
use Rattle.fixings.proofs.mean.Prices.of.Goals as goal

pub overflow_add-result : goal.overflow_add-result
overflow_add-result c =
    let e : c.sum-total.result ≡ sum (in_hundredths c.args.samples.now) = search rules in
    omega (arith, sum_most c.args.samples.now)

pub invariant_of-result-clause-most : goal.invariant_of-result-clause-most
invariant_of-result-clause-most c =
    let e : c.sum-total.result ≡ sum (in_hundredths c.args.samples.now) = search rules in
    omega (arith, sum_most c.args.samples.now)
