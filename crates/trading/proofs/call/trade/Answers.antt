use Rattle.std.proofs.Common.{◌<◌, refl, ap, ◌∙◌, ap₂, rules}
use Rattle.std.proofs.lemmas.Result.{err_from_is_err_and}
use Rattle.registers.proofs.Always.{rising}
use Rattle.tables.specs.Model.{model_of}
use Rattle.tables.proofs.Following.{refused, accepted}
use Rattle.trading.specs.Deals.{trade_of, event_of}
use Rattle.trading.proofs.Tested.{known_so}
use Rattle.trading.proofs.Whole.{passed}
use Rattle.trading.proofs.Posting.{posted_is, posted_fits, outcome_apart, buyer_there, seller_there, stays, moves_on}
use Rattle.trading.proofs.call.trade.Goals as goal

pub returns-in_err-outcome : goal.returns-in_err-outcome
returns-in_err-outcome g c =
    let r = err_from_is_err_and c.from_residual.result c.from_residual.ensures.1 in
    let u = c.args.tables.now in
    let s = c.args.tariff.now in
    let e = event_of (g.T.Tariff.price s) (trade_of c.args.trade) in
    let h = c.in_err-outcome.ensures in
    rw (r.1, r.2) (record { follows = refused e u u _ refl h; standing = stays g.T.Tariff.after s (model_of u) e _ h })

pub post-requires : goal.post-requires
post-requires g c =
    let u = c.args.tables.now in
    let b = model_of u in
    let t = trade_of c.args.trade in
    let p = g.T.Tariff.price c.args.tariff.now in
    let o = c.in_ok-outcome.outcome in
    let lb : t.buyer < 65536 = search rules in
    let ls : t.seller < 65536 = search rules in
    let h = c.in_ok-outcome.ensures in
    let q = passed b t p h.0 in
    let κ = known_so b t q.known_so in
    let rises = rising u.positions in
    record {
      buyer = buyer_there b t p o lb ls κ rises h.1;
      seller = seller_there b t p o lb ls κ rises h.1;
      apart = outcome_apart b t p o lb ls κ rises h.1;
      space = posted_fits b t p o lb ls κ rises h.1 q.allowed_so;
    }

pub returns : goal.returns
returns g c =
    let u = c.args.tables.now in
    let b = model_of u in
    let t = trade_of c.args.trade in
    let s = c.args.tariff.now in
    let next = g.T.Tariff.after in
    let p = g.T.Tariff.price s in
    let e = event_of p t in
    let o = c.in_ok-outcome.outcome in
    let lb : t.buyer < 65536 = search rules in
    let ls : t.seller < 65536 = search rules in
    let h = c.in_ok-outcome.ensures in
    let κ = known_so b t (passed b t p h.0).known_so in
    record {
      follows = accepted e u c.post.new.tables h.0 (c.post.ensures ∙ posted_is b t p o lb ls κ (rising u.positions) h.1);
      standing = c.charge-2.ensures ∙ ap₂ next (c.charge.ensures ∙ ap (next s) h.1.buyer.side) h.1.seller.side ∙ moves_on next s b e h.0;
    }
