use Rattle.std.proofs.Common.{◌≡◌, ℕ, cond, ℤ, pos, ◌-ℤ◌, ◌*ℤ◌, Ok, refl, ap, ◌∙◌, arith, w32, SFits, to_z, of_z, rules}
use Rattle.std.proofs.lemmas.Int.{to_z-of_z}
use Rattle.terms.specs.declared.refusal.Reason.TheVariants.{AmountOutOfRange}
use Rattle.terms.specs.Families.{cents_of}
use Rattle.registers.specs.Held.{rows_of}
use Rattle.positions.specs.declared.position.Position.{Position}
use Rattle.positions.specs.Positions.{units}
use Rattle.positions.specs.Money.{amount}
use Rattle.positions.specs.Keys.{future_key}
use Rattle.ledger.specs.declared.rows.Terms.{Terms}
use Rattle.ledger.specs.Book.{family_in, value_at}
use Rattle.ledger.specs.Rows.{in_series}
use Rattle.ledger.specs.Judge.{accepted, unless, judge_mark, overdrawn}
use Rattle.ledger.specs.Post.{post_mark}
use Rattle.tables.specs.Model.{model_of}
use Rattle.settling.specs.Payments.{gains, tested}
use Rattle.std.proofs.lemmas.Grind.{common_steps}
use Rattle.std.proofs.lemmas.Result.{err_from_is_err_and}
use Rattle.tables.proofs.Following.{refused, never_opened}
use Rattle.settling.specs.Marks.{marking, moved}
use Rattle.settling.proofs.Marked.{judge_mark_lem, follows_mark}
use Rattle.ledger.specs.Judge as judging
use Rattle.settling.proofs.marking.mark.Goals as goal

pub returns-in_err-family : goal.returns-in_err-family
returns-in_err-family c σ w =
    let t = c.args.tables.now in
    let p = err_from_is_err_and c.from_residual.result c.from_residual.ensures.1 in
    rw (p.1, p.2) (refused (marking c.args.month c.args.price) t t _ refl (never_opened t _ _ c.in_err-family.ensures))

pub returns-in_err-month : goal.returns-in_err-month
unfolding judging.need
returns-in_err-month c σ w =
    let t = c.args.tables.now in
    let p = err_from_is_err_and c.from_residual-in_err-month.result c.from_residual-in_err-month.ensures.1 in
    let j = judge_mark_lem t c.args.month c.args.price c.in_ok-family.ensures.0 in
    let m = c.in_err-month.ensures in
    rw (p.1, p.2) (refused (marking c.args.month c.args.price) t t _ refl (j ∙ grind (arith, common_steps, m)))

pub returns-in_err-price : goal.returns-in_err-price
unfolding judging.need
returns-in_err-price c σ w =
    let t = c.args.tables.now in
    let p = err_from_is_err_and c.from_residual-in_err-price.result c.from_residual-in_err-price.ensures.1 in
    let j = judge_mark_lem t c.args.month c.args.price c.in_ok-family.ensures.0 in
    let m = c.in_ok-month.ensures in
    let x = c.in_err-price.ensures in
    rw (p.1, p.2) (refused (marking c.args.month c.args.price) t t _ refl (j ∙ grind (arith, common_steps, m, x)))

pub returns-in_err-future : goal.returns-in_err-future
unfolding judging.need
returns-in_err-future c σ w =
    let t = c.args.tables.now in
    let p = err_from_is_err_and c.from_residual-in_err-future.result c.from_residual-in_err-future.ensures.1 in
    let j = judge_mark_lem t c.args.month c.args.price c.in_ok-family.ensures.0 in
    let m = c.in_ok-month.ensures in
    let x = c.in_ok-price.ensures in
    let f = c.in_err-future.ensures in
    rw (p.1, p.2) (refused (marking c.args.month c.args.price) t t _ refl (j ∙ grind (arith, common_steps, m, x, f)))

pub returns : goal.returns
unfolding judging.need amount
returns c σ w =
    let t = c.args.tables.now in
    let b = model_of t in
    let s = future_key c.args.month in
    let m = c.in_ok-month.ensures in
    let x = c.in_ok-price.ensures in
    let o = c.in_ok-family.ensures in
    let f = c.in_ok-future.ensures in
    let fits : SFits w32 c.in_ok-future.future.value = search rules in
    let chain : judge_mark b c.args.month c.args.price (post_mark b s (pos c.args.price)) ≡ unless (overdrawn b s s (post_mark b s (pos c.args.price))) AmountOutOfRange (Ok tt)
    = grind (arith, common_steps, m, x, f) in
    let key : c.future_key.result ≡ s = c.future_key.ensures.value ∙ ap future_key m.1 in
    let value : to_z w32 (of_z w32 c.in_ok-future.future.value) ≡ value_at b s = to_z-of_z w32 _ fits ∙ ap (λ (t : Terms). t.value) f.1 ∙ ap (value_at b) (ap future_key m.1) in
    let between = rw c.in_ok-gain.ensures.ok_part at c.between.ensures in
    let price : c.hundredths.result ≡ c.args.price = c.hundredths.ensures.value ∙ x.1 in
    let family = o.1 in
    let gain : c.in_ok-gain.gain.cents ≡ pos (cents_of (family_in b)) *ℤ (pos c.args.price -ℤ value_at b s) = cc in
    follows_mark t c.args.month c.args.price o.0 chain σ w c.move_mark.new.tables (gains c.in_ok-gain.gain) c.move_mark.result
    (ap {B = Position → ℤ} (λ (y : ℤ). λ l. units l *ℤ y) gain)
    (c.move_mark.ensures.answer ∙ ap (λ (k : ℕ). tested (gains c.in_ok-gain.gain) (in_series k (rows_of t.positions)) (rows_of t.accounts)) key)
    (c.move_mark.ensures.book
    ∙ ap (λ (k : ℕ). cond (accepted c.move_mark.result) (moved (gains c.in_ok-gain.gain) k c.in_ok-price.price.hundredths b) b) key
    ∙ ap (λ (v : ℕ). cond (accepted c.move_mark.result) (moved (gains c.in_ok-gain.gain) s v b) b) x.1)
