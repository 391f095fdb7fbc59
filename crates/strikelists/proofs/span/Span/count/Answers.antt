use Rattle.std.proofs.Common.{rules}
use Rattle.strikelists.proofs.Counts.{fits, total}
use Rattle.strikelists.proofs.span.Span.count.Goals as goal

pub sum-requires-clause-fits : goal.sum-requires-clause-fits
sum-requires-clause-fits c = fits (λ s. s.left) _ _ (λ r n q h. search rules) c.map.ensures.closure c.args.self.now (cc)

pub overflow_add-result : goal.overflow_add-result
overflow_add-result c =
    let n = total (λ s. s.left) _ _ (λ r n q h. search rules) c.map.ensures.closure c.args.self.now (cc) c.sum.result c.sum.ensures.ran in
    search rules

pub returns : goal.returns
returns c = (total (λ s. s.left) _ _ (λ r n q h. search rules) c.map.ensures.closure c.args.self.now (cc) c.sum.result c.sum.ensures.ran).0
