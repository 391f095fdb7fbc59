use Rattle.std.proofs.Common.{◌≡◌, ◌^◌, ◌≤◌, pos, ◌-ℤ◌, neg_ℤ, nat_abs, sym, ap, ◌∙◌, ap₂, arith, w64, SFits, to_z, of_z, rules}
use Rattle.std.proofs.lemmas.Int.{ints, to_z-of_z}
use Rattle.std.proofs.lemmas.Bool.{cond-true, cond-false}
use Rattle.positions.specs.Money.{amount}
use Rattle.ledger.specs.Numbers.{is_future}
use Rattle.ledger.specs.Post.{cash_of}
use Rattle.tables.proofs.Doors.{kind_of_lem}
use Rattle.trading.proofs.Entry.{not_future}
use Rattle.trading.proofs.deal.Deal.cash.Goals as goal

pub returns-in-Future : goal.returns-in-Future
unfolding cash_of
returns-in-Future c =
    let f = c.args.family in
    let d = c.args.self.now in
    let r = c.cents.result in
    let n = c.units-units.result in
    let v = c.args.value in
    let bound = c.cents.ensures.bound in
    let fn : SFits w64 n = search rules in
    let fv = c.ranges.value in
    let er : to_z w64 (of_z w64 r) ≡ r = omega (arith, ints) in
    let hp = c.from-price.ensures in
    let hv = c.from.ensures in
    let hh = c.hundredths.ensures.value in
    let hr = c.hundredths.ensures.range in
    let x : to_z w64 (of_z w64 (to_z w64 (of_z w64 c.from.result) -ℤ to_z w64 (of_z w64 c.from-price.result))) ≡ v -ℤ pos d.price.hundredths = omega (arith, ints) in
    let future = ap is_future (kind_of_lem d.series.kind ∙ sym c.kind.ensures ∙ c.in-Future.is) in
    record {
      value = er
          ∙ c.cents.ensures.value
          ∙ ap₂ (amount f) (to_z-of_z w64 n fn ∙ c.units-units.ensures.value) x
          ∙ sym (cond-true _ _ _ future);
      bound = rw er bound;
    }

pub returns-in_default : goal.returns-in_default
unfolding cash_of
returns-in_default c =
    let f = c.args.family in
    let d = c.args.self.now in
    let r = c.cents-in_default.result in
    let n = c.units-units.result in
    let bound = c.cents-in_default.ensures.bound in
    let fn : SFits w64 n = search rules in
    let hp = c.from-price.ensures in
    let hh = c.hundredths.ensures.value in
    let hr = c.hundredths.ensures.range in
    let er : to_z w64 (of_z w64 (pos 0 -ℤ to_z w64 (of_z w64 r))) ≡ neg_ℤ r = omega (arith, ints) in
    let small : nat_abs (neg_ℤ r) ≤ 2 ^ 56 = omega (arith, ints) in
    let x : to_z w64 (of_z w64 c.from-price.result) ≡ pos d.price.hundredths = omega (arith, ints) in
    let option = ap is_future (kind_of_lem d.series.kind ∙ sym c.kind.ensures) ∙ not_future c.kind.result c.in_default.not-Future in
    record {
      value = er
          ∙ ap neg_ℤ (c.cents-in_default.ensures.value ∙ ap₂ (amount f) (to_z-of_z w64 n fn ∙ c.units-units.ensures.value) x)
          ∙ sym (cond-false _ _ _ option);
      bound = rw er small;
    }
