use Rattle.std.proofs.Common.{arith}
use Rattle.std.proofs.lemmas.Grind.{common_steps}
use Rattle.ledger.specs.Judge as judging
use Rattle.trading.proofs.Allowing.{allowed_is}
use Rattle.trading.proofs.known.KnownDeal.allowed.Goals as goal

pub returns-then-not-within_limit : goal.returns-then-not-within_limit
unfolding judging.need
returns-then-not-within_limit c p = grind (arith, common_steps, allowed_is c.args.self.now p c.delta-delta.result c.delta-delta.ensures.bound c.delta-delta.ensures.value)

pub returns-then-not-within_limit-2 : goal.returns-then-not-within_limit-2
unfolding judging.need
returns-then-not-within_limit-2 c p = grind (arith, common_steps, allowed_is c.args.self.now p c.delta-delta.result c.delta-delta.ensures.bound c.delta-delta.ensures.value)

pub returns-then-not-has_room : goal.returns-then-not-has_room
unfolding judging.need
returns-then-not-has_room c p = grind (arith, common_steps, allowed_is c.args.self.now p c.delta-delta.result c.delta-delta.ensures.bound c.delta-delta.ensures.value)

pub returns : goal.returns
unfolding judging.need
returns c p = grind (arith, common_steps, allowed_is c.args.self.now p c.delta-delta.result c.delta-delta.ensures.bound c.delta-delta.ensures.value)
