use Rattle.std.proofs.Common.{◌≡◌, [], ◌∷◌, sym, ap, ◌∙◌, subst, ap₂}
use Rattle.std.proofs.lemmas.Result.{err_from_is_err_and}
use Rattle.tariffs.specs.declared.side.Side.{Side}
use Rattle.charges.specs.Fees.{rated_all}
use Rattle.ledger.specs.Charges.{trade_side, fee_of}
use Rattle.ledger.specs.Judge.{Verdict}
use Rattle.tables.specs.Model.{Judges, model_of}
use Rattle.trading.specs.Deals.{trade_in}
use Rattle.trading.specs.Found.{OutcomeOf}
use Rattle.trading.specs.declared.found.Parties.{Parties}
use Rattle.trading.proofs.Chains.{also_ok, also_err}
use Rattle.trading.proofs.Rated.{both_rated, all_rated, one_unrated}
use Rattle.trading.proofs.known.KnownDeal.priced.Goals as goal

pub returns-in_err-fees : goal.returns-in_err-fees
returns-in_err-fees g c =
    let t = trade_in c.args.self.now.deal in
    let p = g.T.Tariff.price c.args.tariff.now in
    let sb : c.side-buyer.result ≡ _ = c.side-buyer.ensures ∙ ap (λ (x : Parties). trade_side t t.buyer x.buyer.kind) c.args.self.now.found in
    let ss : c.side-seller.result ≡ _ = c.side-seller.ensures ∙ ap (λ (x : Parties). trade_side t t.seller x.seller.kind) c.args.self.now.found in
    let e = err_from_is_err_and c.from_residual.result c.from_residual.ensures.1 in
    let h = one_unrated p c.side-buyer.result c.side-seller.result _ c.in_err-fees.ensures.answer in
    rw (e.1, e.2) (also_err _ _ _ (ap₂ (λ (x y : Side). rated_all p (x ∷ y ∷ [])) (sym sb) (sym ss) ∙ h))

pub returns : goal.returns
returns g c =
    let b = model_of c.args.self.now.book.tables.now in
    let t = trade_in c.args.self.now.deal in
    let p = g.T.Tariff.price c.args.tariff.now in
    let sb : c.side-buyer.result ≡ _ = c.side-buyer.ensures ∙ ap (λ (x : Parties). trade_side t t.buyer x.buyer.kind) c.args.self.now.found in
    let ss : c.side-seller.result ≡ _ = c.side-seller.ensures ∙ ap (λ (x : Parties). trade_side t t.seller x.seller.kind) c.args.self.now.found in
    let fees = c.in_ok-fees.fees in
    let h = both_rated p c.side-buyer.result c.side-seller.result fees.0 fees.1 c.in_ok-fees.ensures.answer in
    let all = ap₂ (λ (x y : Side). rated_all p (x ∷ y ∷ [])) (sym sb) (sym ss) ∙ all_rated p c.side-buyer.result c.side-seller.result fees.0 fees.1 h.0 h.1 in
    subst (λ (v : Verdict). Judges v (OutcomeOf b t p) c.outcome.result) (sym (also_ok _ _ all))
    (c.outcome.ensures p (ap (λ (x : Side). fee_of (p x)) (sym sb) ∙ ap fee_of h.0) (ap (λ (x : Side). fee_of (p x)) (sym ss) ∙ ap fee_of h.1))
