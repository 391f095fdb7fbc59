use Rattle.std.proofs.Common.{◌≡◌, ℕ, ◌+◌, ◌*◌, List, ℤ, pos, Ok, Err, sym, refl, ap, ◌∙◌, subst, arith, w32, to_z}
use Rattle.std.proofs.lemmas.Result.{err_from_is_err_and}
use Rattle.std.proofs.lemmas.Int.{ints}
use Rattle.std.specs.List.{zip, between}
use Rattle.registers.specs.Rows.{Rows, keys_in, contents_in}
use Rattle.registers.specs.Stretches.{StretchAt}
use Rattle.registers.specs.Held.{rows_of}
use Rattle.registers.proofs.Always.{rising}
use Rattle.registers.specs.declared.keyed.Register.{Register}
use Rattle.positions.specs.declared.position.Position.{Position}
use Rattle.ledger.specs.Rows.{change, in_series}
use Rattle.ledger.specs.Book.{unlisted}
use Rattle.ledger.specs.Post.{valued}
use Rattle.settling.specs.Payments.{gains, tested, Ready, pay_all}
use Rattle.settling.proofs.Neighbours.{series_rows, in_order, all_in}
use Rattle.settling.proofs.Paying.{ready, all_afforded}
use Rattle.settling.proofs.marking.move_mark.Goals as goal

-- the lent parts are the positions in the series
lent : (r : Register Position) (s from to : ℕ) (ks : List ℕ) (vs : List Position) → ks ≡ keys_in (rows_of r) → vs ≡ contents_in (rows_of r)
    → StretchAt (s * 65536) ((s + 1) * 65536) (rows_of r) from to → zip (between from to ks) (between from to vs) ≡ in_series s (rows_of r)
lent r s from to ks vs e d h =
    ap (λ (xs : List ℕ). zip (between from to xs) (between from to vs)) e
    ∙ ap (λ (xs : List Position). zip (between from to (keys_in (rows_of r))) (between from to xs)) d
    ∙ series_rows s from to (rows_of r) (rising r) h

pub returns-in_err-test_gains : goal.returns-in_err-test_gains
returns-in_err-test_gains c =
    let t = c.args.tables.now in
    let rows = lent t.positions c.args.future c.stretch-from.result.from c.stretch-from.result.to _ _ c.keys.ensures.value c.contents.ensures.value c.stretch-from.ensures.places in
    let p = err_from_is_err_and c.from_residual.result c.from_residual.ensures.1 in
    let e = p.1 ∙ ap Err p.2 in
    record {
      answer = e ∙ c.in_err-test_gains.ensures ∙ ap (λ (rs : Rows Position). tested (gains c.args.gain) rs (rows_of t.accounts)) rows;
      book = rw e refl;
    }

pub post_gains-requires : goal.post_gains-requires
post_gains-requires c =
    let t = c.args.tables.now in
    let f = gains c.args.gain in
    let s = c.args.future in
    let cs = rows_of t.accounts in
    let ps = rows_of t.positions in
    let rows = lent t.positions s c.stretch-from.result.from c.stretch-from.result.to _ _ c.keys.ensures.value c.contents.ensures.value c.stretch-from.ensures.places in
    let good : tested f (in_series s ps) cs ≡ Ok tt = ap (λ (rs : Rows Position). tested f rs cs) (sym rows) ∙ sym c.in_ok-test_gains.ensures in
    subst (λ (rs : Rows Position). Ready f rs cs) (sym rows) (ready f s 0 (in_series s ps) cs (in_order s ps (rising t.positions)) (all_in s ps) (all_afforded f (in_series s ps) cs good))

pub returns : goal.returns
returns c =
    let t = c.args.tables.now in
    let f = gains c.args.gain in
    let s = c.args.future in
    let cs = rows_of t.accounts in
    let rows = lent t.positions s c.stretch-from.result.from c.stretch-from.result.to _ _ c.keys.ensures.value c.contents.ensures.value c.stretch-from.ensures.places in
    let v : to_z w32 c.hundredths.result ≡ pos c.args.mark.hundredths = let m = c.args.mark.most in omega (arith, ints) in
    let paid = c.post_gains.ensures.rows ∙ ap (λ (rs : Rows Position). pay_all f rs cs) rows in
    let set = c.set_value.ensures.rows ∙ ap (λ (y : ℤ). change unlisted (valued y) s (rows_of t.series)) v in
    record {
      answer = c.in_ok-test_gains.ensures ∙ ap (λ (rs : Rows Position). tested f rs cs) rows;
      book = λ i. record {
        family = t.family;
        spaces = record { accounts = c.post_gains.ensures.room i; series = c.set_value.ensures.room i; positions = t.positions.room };
        accounts = paid i;
        series = set i;
        positions = rows_of t.positions;
        exchange = t.exchange;
      };
    }
