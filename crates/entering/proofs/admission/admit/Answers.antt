use Rattle.std.proofs.Common.{◌≡◌, Bool, true, ◌||◌, is_some, sym, ap, ◌∙◌, pos, arith}
use Rattle.std.proofs.lemmas.Grind.{common_steps}
use Rattle.registers.specs.Held.{rows_of, room_of}
use Rattle.registers.specs.Rows.{lookup, put, place_for}
use Rattle.ledger.specs.Calls.{admit}
use Rattle.ledger.specs.Judge as judging
use Rattle.ledger.specs.Numbers.{account_kind_of}
use Rattle.ledger.specs.Post.{post}
use Rattle.ledger.specs.Rows.{change}
use Rattle.ledger.proofs.Accepted.{AdmitPassed, passed}
use Rattle.tables.specs.Model.{model_of, unpriced}
use Rattle.tables.proofs.Following.{accepted, judge_is}
use Rattle.entering.proofs.Rooms.{admitted_fits, or_true}
use Rattle.entering.proofs.admission.admit.Goals as goal

pub returns : goal.returns
unfolding judging.judge_call post change
returns c =
    let t = c.args.tables.now in
    let a = c.args.account in
    let e = c.in_ok-kind.ensures in
    let π : AdmitPassed (model_of t) a c.args.kind (post (model_of t) (admit a c.args.kind) unpriced) = passed (model_of t) (admit a c.args.kind) unpriced 0 _ e.0 in
    let place : place_for a (rows_of t.accounts) (room_of t.accounts) ≡ true
    = ap (λ (b : Bool). is_some (lookup (rows_of t.accounts) a) || b) (sym (admitted_fits t a c.args.kind unpriced π.fresh) ∙ π.room) ∙ or_true _ in
    let q = c.put.ensures.rows in
    let r = c.put.ensures.room in
    let f = c.from.ensures in
    let h : rows_of c.put.new.self ≡ put a (record { kind = account_kind_of c.args.kind; cash = pos 0 }) (rows_of t.accounts) = grind (arith, common_steps, place, q, f, e.1) in
    accepted _ t _ (judge_is t _ c.in_ok-usable.ensures.0 ∙ e.0) (grind (arith, common_steps, h, r))
