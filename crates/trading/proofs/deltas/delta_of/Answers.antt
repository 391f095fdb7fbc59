use Rattle.std.proofs.Common.{◌≡◌, ℕ, ◌<◌, ◌≤◌, List, length, get_or, pos, sym, ap, ◌∙◌, ap₂, arith}
use Rattle.std.proofs.lemmas.List.{length_push}
use Rattle.std.proofs.lemmas.Slice.Zip.{zip_turn, zip_end}
use Rattle.std.proofs.lemmas.Int.{ints}
use Rattle.std.proofs.lemmas.Bool.{cond-true, cond-false, eq-eqb, ne_eqb}
use Rattle.registers.specs.Held.{rows_of}
use Rattle.registers.specs.Rows.{keys_in, contents_in}
use Rattle.registers.specs.Sums.{total_ℤ}
use Rattle.registers.proofs.Always.{within_room}
use Rattle.positions.specs.declared.position.Position.{Position}
use Rattle.positions.specs.Positions.{flat}
use Rattle.positions.specs.Keys.{account_of_key}
use Rattle.tables.specs.Model.{model_of}
use Rattle.trading.specs.Found.{weighs_on}
use Rattle.trading.proofs.Weights.{delta_is, one_more, none_left}
use Rattle.trading.proofs.deltas.delta_of.Goals as goal

pub loop-key-preserved-then-account_of_key-number : goal.loop-key-preserved-then-account_of_key-number
loop-key-preserved-then-account_of_key-number c =
    let t = c.args.book.now.tables.now in
    let f = weighs_on (model_of t) c.args.account.number in
    let rs = rows_of t.positions in
    let n = length c.loop-key.yielded in
    let turn = zip_turn c.keys.result.now c.contents.result.now c.loop-key.yielded
    c.into_iter-key-iterator.result c.loop-key.key-iterator c.next.new.self c.next.result
    (cc) (cc) c.loop-key.yielded_by (c.in-Some.key, c.in-Some.position) c.in-Some.is c.next.ensures.steps in
    let room = within_room t.positions in
    let most = c.args.book.now.positions.1 in
    let long = c.keys.ensures.len in
    let l : n < length rs = omega (arith, turn.0) in
    let m = one_more f rs n flat l in
    let k : c.in-Some.key.now ≡ get_or (keys_in rs) n 0 = turn.2 0 ∙ ap (λ (ks : List ℕ). get_or ks n 0) c.keys.ensures.value in
    let p : c.in-Some.position.now ≡ get_or (contents_in rs) n flat = turn.3 flat ∙ ap (λ (ps : List Position). get_or ps n flat) c.contents.ensures.value in
    let own : c.args.account.number ≡ account_of_key c.in-Some.key.now = omega arith in
    let v : c.weighs-sum.result ≡ f (get_or (keys_in rs) n 0) (get_or (contents_in rs) n flat) = c.weighs-sum.ensures.value ∙ sym (cond-true _ _ _ (eq-eqb _ _ own)) ∙ ap₂ f k p in
    let bound = c.weighs-sum.ensures.bound in
    let inv = c.loop-key.invariant in
    let one = length_push c.loop-key.yielded (c.in-Some.key, c.in-Some.position) in
    rw one (omega (arith, ints), omega (arith, ints))

pub loop-key-preserved : goal.loop-key-preserved
loop-key-preserved c =
    let t = c.args.book.now.tables.now in
    let f = weighs_on (model_of t) c.args.account.number in
    let rs = rows_of t.positions in
    let n = length c.loop-key.yielded in
    let turn = zip_turn c.keys.result.now c.contents.result.now c.loop-key.yielded
    c.into_iter-key-iterator.result c.loop-key.key-iterator c.next.new.self c.next.result
    (cc) (cc) c.loop-key.yielded_by (c.in-Some.key, c.in-Some.position) c.in-Some.is c.next.ensures.steps in
    let long = c.keys.ensures.len in
    let l : n < length rs = omega (arith, turn.0) in
    let m = one_more f rs n flat l in
    let k : c.in-Some.key.now ≡ get_or (keys_in rs) n 0 = turn.2 0 ∙ ap (λ (ks : List ℕ). get_or ks n 0) c.keys.ensures.value in
    let p : c.in-Some.position.now ≡ get_or (contents_in rs) n flat = turn.3 flat ∙ ap (λ (ps : List Position). get_or ps n flat) c.contents.ensures.value in
    let other : c.args.account.number ≡ account_of_key c.in-Some.key.now → ⊥ = λ e. omega arith in
    let v : pos 0 ≡ f (get_or (keys_in rs) n 0) (get_or (contents_in rs) n flat) = sym (cond-false _ _ _ (ne_eqb _ _ other)) ∙ ap₂ f k p in
    let inv = c.loop-key.invariant in
    let one = length_push c.loop-key.yielded (c.in-Some.key, c.in-Some.position) in
    rw one (omega (arith, ints), omega (arith, ints))

pub returns-clause-value : goal.returns-clause-value
returns-clause-value c =
    let t = c.args.book.now.tables.now in
    let f = weighs_on (model_of t) c.args.account.number in
    let rs = rows_of t.positions in
    let n = length c.loop-key.yielded in
    let end = zip_end c.keys.result.now c.contents.result.now c.loop-key.yielded
    c.into_iter-key-iterator.result c.loop-key.key-iterator c.next.new.self c.next.result
    (cc) (cc) c.loop-key.yielded_by c.in-None.is c.next.ensures.steps in
    let l : length rs ≤ n = omega (arith, end, c.keys.ensures.len, c.contents.ensures.len) in
    let z = none_left f rs n l in
    let inv = c.loop-key.invariant in
    let s : c.loop-key.sum ≡ total_ℤ f rs = omega (arith, ints) in
    c.loop-key.sum-is ∙ s ∙ sym (delta_is (model_of t) c.args.account.number)
