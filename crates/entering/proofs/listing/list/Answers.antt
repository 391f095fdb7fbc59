use Rattle.std.proofs.Common.{◌≡◌, Bool, true, ◌||◌, is_some, sym, ap, ◌∙◌, w32, arith}
use Rattle.std.proofs.lemmas.Grind.{common_steps}
use Rattle.std.proofs.lemmas.Int.{to_z-of_z}
use Rattle.registers.specs.Held.{rows_of, room_of}
use Rattle.registers.specs.Rows.{lookup, put, place_for}
use Rattle.ledger.specs.declared.rows.State.TheVariants.{Trading}
use Rattle.ledger.specs.Calls.{list}
use Rattle.ledger.specs.Judge as judging
use Rattle.ledger.specs.Numbers.{key_of}
use Rattle.ledger.specs.Post.{post}
use Rattle.ledger.specs.Rows.{change}
use Rattle.ledger.proofs.Accepted.{ListPassed, passed}
use Rattle.tables.specs.Model.{model_of, unpriced, numbered}
use Rattle.tables.proofs.Following.{accepted, judge_is}
use Rattle.entering.proofs.Rooms.{listed_fits, or_true}
use Rattle.entering.proofs.listing.list.Goals as goal

pub returns : goal.returns
unfolding judging.judge_call post change
returns c =
    let t = c.args.tables.now in
    let x = numbered c.args.numbers in
    let v = c.args.first in
    let o = c.in_ok-in_use.ensures in
    let w = to_z-of_z w32 v c.ranges.first in
    let e = rw (o.1, w) at c.in_ok-series.ensures in
    let π : ListPassed (model_of t) x v (post (model_of t) (list x v) unpriced) = passed (model_of t) (list x v) unpriced 0 _ e.0 in
    let place : place_for (key_of x) (rows_of t.series) (room_of t.series) ≡ true
    = ap (λ (b : Bool). is_some (lookup (rows_of t.series) (key_of x)) || b) (sym (listed_fits t x v unpriced π.fresh) ∙ π.room) ∙ or_true _ in
    let k : c.series_key.result ≡ key_of x = c.series_key.ensures.value ∙ e.1 in
    let q = c.put.ensures.rows in
    let r = c.put.ensures.room in
    let h : rows_of c.put.new.self ≡ put (key_of x) (record { value = v; state = Trading }) (rows_of t.series) = grind (arith, common_steps, place, q, k, w) in
    accepted _ t _ (judge_is t _ o.0 ∙ e.0) (grind (arith, common_steps, h, r))
