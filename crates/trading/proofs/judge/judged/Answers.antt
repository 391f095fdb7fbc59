use Rattle.std.proofs.Common.{◌≡◌, Ok, Err, sym, ap, ◌∙◌, subst, ap₂}
use Rattle.std.proofs.lemmas.Result.{err_from_is_err_and}
use Rattle.terms.specs.declared.family.Family.{Family}
use Rattle.ledger.specs.Calls as calls
use Rattle.ledger.specs.Judge.{Verdict}
use Rattle.ledger.specs.Numbers.{family_of}
use Rattle.ledger.specs.Post.{post}
use Rattle.ledger.specs.Runs.{judge}
use Rattle.tables.specs.declared.tables.Tables.{Tables}
use Rattle.tables.specs.Model.{Judges, model_of}
use Rattle.tables.proofs.Following.{never_opened}
use Rattle.trading.specs.Deals.{trade_of, event_of, trade_in}
use Rattle.trading.specs.Parts.{asked, allowed}
use Rattle.trading.specs.Found.{OutcomeOf}
use Rattle.trading.proofs.Chains.{also_ok, also_err}
use Rattle.trading.proofs.Whole.{judged_by}
use Rattle.trading.proofs.judge.judged.Goals as goal

pub returns-in_err-book : goal.returns-in_err-book
returns-in_err-book g c =
    let e = err_from_is_err_and c.from_residual.result c.from_residual.ensures.1 in
    let p = g.T.Tariff.price c.args.tariff.now in
    rw (e.1, e.2) (never_opened c.args.tables.now (event_of p (trade_of c.args.trade)) _ c.in_err-book.ensures)

-- the family of the tables in use
family_is : {t u : Tables} {f : Family} → t ≡ u → family_of t.family ≡ f → family_of u.family ≡ f
family_is e h = ap (λ (t : Tables). family_of t.family) (sym e) ∙ h

pub returns-in_err-deal : goal.returns-in_err-deal
returns-in_err-deal g c =
    let e = err_from_is_err_and c.from_residual-in_err-deal.result c.from_residual-in_err-deal.ensures.1 in
    let u = c.args.tables.now in
    let t = trade_of c.args.trade in
    let p = g.T.Tariff.price c.args.tariff.now in
    let o = c.in_ok-book.ensures in
    let f = family_is o.1 c.in_ok-book.book.family_is in
    rw (e.1, e.2) (judged_by u t p o.0 ∙ also_err _ _ _ (ap (λ (x : Family). asked x t) f ∙ c.in_err-deal.ensures))

pub returns-in_err-parties : goal.returns-in_err-parties
returns-in_err-parties g c =
    let e = err_from_is_err_and c.from_residual-in_err-parties.result c.from_residual-in_err-parties.ensures.1 in
    let u = c.args.tables.now in
    let p = g.T.Tariff.price c.args.tariff.now in
    let o = c.in_ok-book.ensures in
    let d = c.in_ok-deal.ensures in
    let t = trade_in c.in_ok-deal.deal in
    let numbers = ap₂ asked (family_is o.1 c.in_ok-book.book.family_is) d.1 ∙ d.0 in
    rw (e.1, e.2)
    (ap (λ (x : calls.Trade). judge (model_of u) (event_of p x)) (sym d.1)
    ∙ judged_by u t p o.0
    ∙ also_ok _ _ numbers
    ∙ also_err _ _ _ c.in_err-parties.ensures)

pub returns-in_err-allowed : goal.returns-in_err-allowed
returns-in_err-allowed g c =
    let e = err_from_is_err_and c.from_residual-in_err-allowed.result c.from_residual-in_err-allowed.ensures.1 in
    let u = c.args.tables.now in
    let p = g.T.Tariff.price c.args.tariff.now in
    let o = c.in_ok-book.ensures in
    let d = c.in_ok-deal.ensures in
    let t = trade_in c.in_ok-deal.deal in
    let numbers = ap₂ asked (family_is o.1 c.in_ok-book.book.family_is) d.1 ∙ d.0 in
    let limits : allowed (model_of u) t (post (model_of u) (calls.trade t) p) ≡ Err c.in_err-allowed.field-0.0 = sym (rw o.1 at (c.in_err-allowed.ensures p)) in
    rw (e.1, e.2)
    (ap (λ (x : calls.Trade). judge (model_of u) (event_of p x)) (sym d.1)
    ∙ judged_by u t p o.0
    ∙ also_ok _ _ numbers
    ∙ also_ok _ _ c.in_ok-parties.ensures.0
    ∙ also_err _ _ _ limits)

pub returns : goal.returns
returns g c =
    let u = c.args.tables.now in
    let p = g.T.Tariff.price c.args.tariff.now in
    let o = c.in_ok-book.ensures in
    let d = c.in_ok-deal.ensures in
    let t = trade_in c.in_ok-deal.deal in
    let numbers = ap₂ asked (family_is o.1 c.in_ok-book.book.family_is) d.1 ∙ d.0 in
    let limits : allowed (model_of u) t (post (model_of u) (calls.trade t) p) ≡ Ok tt = sym (rw o.1 at (c.in_ok-allowed.ensures p)) in
    let whole =
    judged_by u t p o.0
    ∙ also_ok _ _ numbers
    ∙ also_ok _ _ c.in_ok-parties.ensures.0
    ∙ also_ok _ _ limits in
    subst (λ (x : calls.Trade). Judges (judge (model_of u) (event_of p x)) (OutcomeOf (model_of u) x p) c.priced.result) d.1
    (subst (λ (v : Verdict). Judges v (OutcomeOf (model_of u) t p) c.priced.result) (sym whole) (rw o.1 at c.priced.ensures))
