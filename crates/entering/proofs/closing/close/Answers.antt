use Rattle.std.proofs.Common.{◌≡◌, ℕ, ◌≤◌, Bool, true, false, ◌||◌, ltb, length, refl, ap, ◌∙◌, subst, arith}
use Rattle.std.proofs.lemmas.Grind.{common_steps}
use Rattle.registers.specs.Held.{rows_of, room_of}
use Rattle.registers.specs.Rows.{place_for}
use Rattle.positions.specs.declared.position.Position.{Position}
use Rattle.positions.specs.Keys.{line_key}
use Rattle.positions.specs.Positions.{flat, closable}
use Rattle.ledger.specs.Book.{position_at}
use Rattle.ledger.specs.Calls.{close}
use Rattle.ledger.specs.Judge as judging
use Rattle.ledger.specs.Numbers.{key_of}
use Rattle.ledger.specs.Post.{post}
use Rattle.ledger.specs.Rows.{present, revise}
use Rattle.ledger.proofs.Accepted.{ClosePassed, passed}
use Rattle.ledger.proofs.PositionLaws.{closable_minis}
use Rattle.ledger.proofs.RowLaws.{at_absent}
use Rattle.tables.specs.declared.tables.Tables.{Tables}
use Rattle.tables.specs.Model.{model_of, unpriced, numbered}
use Rattle.tables.proofs.Following.{accepted, judge_is}
use Rattle.entering.specs.Closed.{ClosedAt}
use Rattle.entering.proofs.closing.close.Goals as goal

-- what is closed is there
there : (t : Tables) (s a k : ℕ) → closable k (position_at (model_of t) s a) ≡ true → 1 ≤ k → present (rows_of t.positions) (line_key s a) ≡ true
there t s a k e h = ways (present (rows_of t.positions) (line_key s a)) refl
  where
    ways : (c : Bool) → present (rows_of t.positions) (line_key s a) ≡ c → c ≡ true
    ways true q = refl
    ways false q = absurd (closable_minis k flat h refl (subst (λ (p : Position). closable k p ≡ true) (at_absent flat (line_key s a) (rows_of t.positions) q) e))

pub returns : goal.returns
unfolding judging.judge_call post revise
returns c =
    let t = c.args.tables.now in
    let x = numbered c.args.numbers in
    let a = c.args.account in
    let k = c.args.count in
    let o = c.in_ok-in_use.ensures in
    let e = rw o.1 at c.in_ok-left.ensures in
    let π : ClosePassed (model_of t) x a k = passed (model_of t) (close x a k) unpriced 0 (model_of t) e.0 in
    let f : ClosedAt t (key_of x) a k c.in_ok-left.left = e.1 in
    let there : place_for (line_key (key_of x) a) (rows_of t.positions) (room_of t.positions) ≡ true
    = ap (λ (b : Bool). b || ltb (length (rows_of t.positions)) (room_of t.positions)) (there t (key_of x) a k π.enough π.some) in
    accepted _ t _ (judge_is t _ o.0 ∙ e.0) (grind (arith, common_steps, there, f.has_key, f.has_position))
