-- The answer to a trade is that of its parts, one after the other.
use Rattle.std.proofs.Common.{◌≡◌, Ok, sym, refl, ◌∙◌}
use Rattle.charges.specs.Fees.{rated_all}
use Rattle.ledger.specs.Calls.{Trade, Pricing, trade}
use Rattle.ledger.specs.Book.{Book, family_in}
use Rattle.ledger.specs.Charges.{charged}
use Rattle.ledger.specs.Post.{post}
use Rattle.ledger.specs.Judge.{Verdict, also, judge_trade, judge_call, judge_opening}
use Rattle.ledger.specs.Runs.{judge}
use Rattle.ledger.proofs.Accepted.{also_so}
use Rattle.tables.specs.declared.tables.Tables.{Tables}
use Rattle.tables.specs.Model.{model_of, spaces_of}
use Rattle.tables.proofs.Following.{judge_is}
use Rattle.trading.specs.Deals.{event_of}
use Rattle.trading.specs.Parts.{asked, known, allowed, afforded}
use Rattle.trading.proofs.Chains.{also_need}

also_done : (w : Verdict) → also (Ok tt) w ≡ w
unfolding also
also_done w = refl

-- the parts, c being the book after the trade
abbrev pub in_parts : Book → Trade → Pricing → Book → Verdict
in_parts b t p c = also (asked (family_in b) t) (also (known b t) (also (allowed b t c) (also (rated_all p (charged b (trade t))) (afforded t c))))

in_parts_lem : (b : Book) (t : Trade) (p : Pricing) (c : Book) → judge_trade b t p c ≡ in_parts b t p c
unfolding asked known allowed afforded
in_parts_lem b t p c = sym (simp (also_need, also_done))

pub judged_by : (u : Tables) (t : Trade) (p : Pricing) → judge_opening u.family (spaces_of u) ≡ Ok tt
    → judge (model_of u) (event_of p t) ≡ in_parts (model_of u) t p (post (model_of u) (trade t) p)
unfolding judge_call
judged_by u t p h = judge_is u (event_of p t) h ∙ in_parts_lem (model_of u) t p (post (model_of u) (trade t) p)

pub record Passed (b : Book) (t : Trade) (c : Book) : Type 0 where
  pub known_so : known b t ≡ Ok tt
  pub allowed_so : allowed b t c ≡ Ok tt

pub passed : (b : Book) (t : Trade) (p : Pricing) → judge b (event_of p t) ≡ Ok tt → Passed b t (post b (trade t) p)
unfolding judge judge_call
passed b t p h =
    let whole = also_so _ _ h in
    let a = also_so _ _ (sym (in_parts_lem b t p (post b (trade t) p)) ∙ whole.1) in
    let k = also_so _ _ a.1 in
    let l = also_so _ _ k.1 in
    record { known_so = k.0; allowed_so = l.0 }
