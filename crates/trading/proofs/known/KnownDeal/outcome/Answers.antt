use Rattle.std.proofs.Common.{◌≡◌, ℕ, ◌+◌, ◌^◌, ◌≤◌, ℤ, pos, nat_abs, ap, ◌∙◌, ap₂, sym, arith, w32, w64, SFits, rules}
use Rattle.std.proofs.lemmas.Grind.{common_steps}
use Rattle.std.proofs.lemmas.Int.{ints, to_z-of_z}
use Rattle.std.proofs.lemmas.Result.{err_from_is_err_and}
use Rattle.terms.specs.declared.family.Family.{Family}
use Rattle.ledger.specs.Calls.{Pricing}
use Rattle.ledger.specs.Judge as judging
use Rattle.ledger.specs.Post.{cash_of}
use Rattle.tables.specs.Model.{model_of}
use Rattle.trading.specs.Deals.{trade_in}
use Rattle.trading.specs.Found.{fee_on}
use Rattle.trading.specs.declared.found.Parties.{Parties}
use Rattle.trading.specs.declared.known.KnownDeal.{KnownDeal}
use Rattle.trading.proofs.Reading.{took}
use Rattle.trading.proofs.Affording.{Priced, afforded_is, buyer_leg, seller_leg, earned}
use Rattle.trading.proofs.known.KnownDeal.outcome.Goals as goal

pub overflow_sub-cash-2 : goal.overflow_sub-cash-2
overflow_sub-cash-2 c = omega (arith, ints, c.cash-cash.ensures.bound)

pub overflow_sub-cash-3 : goal.overflow_sub-cash-3
overflow_sub-cash-3 c = omega (arith, ints, c.cash-cash.ensures.bound, c.requires)

-- the cash and the fees of a known deal are the rules', at a pricing that says the fees
priced : (k : KnownDeal) (p : Pricing) (v cash : ℤ) (f g : ℕ) → v ≡ k.parties.terms.value → cash ≡ cash_of k.book.family v (trade_in k.deal) → nat_abs cash ≤ 2 ^ 56
    → f + g ≤ 20000000000 → fee_on (model_of k.book.tables.now) (trade_in k.deal) p k.deal.buyer.number ≡ pos f
    → fee_on (model_of k.book.tables.now) (trade_in k.deal) p k.deal.seller.number ≡ pos g → Priced k p cash f g
priced k p v cash f g ev ec bound few hb hs = record {
  same = ec ∙ ap₂ (λ (f : Family) (v : ℤ). cash_of f v (trade_in k.deal)) (sym k.book.family_is) (ev ∙ ap (λ (x : Parties). x.terms.value) k.found);
  bound = bound;
  few = few;
  buyer = hb;
  seller = hs;
}

pub returns-in_err-buyer : goal.returns-in_err-buyer
unfolding judging.need
returns-in_err-buyer c p hb hs =
    let k = c.args.self.now in
    let fv : SFits w32 k.parties.terms.value = search rules in
    let π = priced k p _ _ _ _ (to_z-of_z w32 _ fv) c.cash-cash.ensures.value c.cash-cash.ensures.bound c.requires hb hs in
    let e = err_from_is_err_and c.from_residual.result c.from_residual.ensures.1 in
    let h = c.in_err-buyer.ensures in
    let s = c.side-buying.ensures in
    rw (e.1, e.2) (grind (arith, common_steps, afforded_is k p _ _ _ π, h, s))

pub returns-in_err-seller : goal.returns-in_err-seller
unfolding judging.need
returns-in_err-seller c p hb hs =
    let k = c.args.self.now in
    let fv : SFits w32 k.parties.terms.value = search rules in
    let π = priced k p _ _ _ _ (to_z-of_z w32 _ fv) c.cash-cash.ensures.value c.cash-cash.ensures.bound c.requires hb hs in
    let e = err_from_is_err_and c.from_residual-in_err-seller.result c.from_residual-in_err-seller.ensures.1 in
    let b = c.in_ok-buyer.ensures in
    let h = c.in_err-seller.ensures in
    let s = c.side-selling.ensures in
    rw (e.1, e.2) (grind (arith, common_steps, afforded_is k p _ _ _ π, b.0, h, s))

pub returns-in_err-exchange : goal.returns-in_err-exchange
unfolding judging.need
returns-in_err-exchange c p hb hs =
    let k = c.args.self.now in
    let fv : SFits w32 k.parties.terms.value = search rules in
    let fe : SFits w64 k.book.tables.now.exchange = search rules in
    let π = priced k p _ _ _ _ (to_z-of_z w32 _ fv) c.cash-cash.ensures.value c.cash-cash.ensures.bound c.requires hb hs in
    let e = err_from_is_err_and c.from_residual-in_err-exchange.result c.from_residual-in_err-exchange.ensures.1 in
    let b = c.in_ok-buyer.ensures in
    let s = c.in_ok-seller.ensures in
    let h = c.in_err-exchange.ensures in
    rw (e.1, e.2) (grind (arith, common_steps, afforded_is k p _ _ _ π, earned k p _ _ _ π fe, b.0, s.0, h.variant, h.value))

pub returns : goal.returns
unfolding judging.need
returns c p hb hs =
    let k = c.args.self.now in
    let fv : SFits w32 k.parties.terms.value = search rules in
    let fe : SFits w64 k.book.tables.now.exchange = search rules in
    let π = priced k p _ _ _ _ (to_z-of_z w32 _ fv) c.cash-cash.ensures.value c.cash-cash.ensures.bound c.requires hb hs in
    let b = c.in_ok-buyer.ensures in
    let s = c.in_ok-seller.ensures in
    let h = c.in_ok-exchange.ensures in
    let fx : SFits w64 c.in_ok-exchange.exchange = search rules in
    let paid = earned k p _ _ _ π fe in
    let is = took _ _ _ (sym h.ok_part ∙ c.paid.ensures) in (
      grind (arith, common_steps, afforded_is k p _ _ _ π, paid, b.0, s.0, h.variant, h.value),
      record {
        buyer = buyer_leg k p _ _ _ π _ (rw c.side-buying.ensures at b.1);
        seller = seller_leg k p _ _ _ π _ (rw c.side-selling.ensures at s.1);
        exchange = to_z-of_z w64 _ fx ∙ is.1 ∙ paid;
      },
    )
