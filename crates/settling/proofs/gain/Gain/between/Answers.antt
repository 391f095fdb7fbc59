use Rattle.std.proofs.Common.{◌≡◌, ◌≤◌, ℤ, pos, ◌-ℤ◌, ◌*ℤ◌, nat_abs, sym, ap, ◌∙◌, subst, arith, w64, to_z, of_z}
use Rattle.std.proofs.lemmas.Int.{ints, to_z-of_z}
use Rattle.terms.specs.Families.{cents_of}
use Rattle.tables.proofs.Products.{product_below, few_cents}
use Rattle.settling.proofs.Products.{product_fits}
use Rattle.settling.proofs.gain.Gain.between.Goals as goal

-- what the code multiplies
abbrev one : ℤ → ℤ
one x = to_z w64 (of_z w64 x)

abbrev move : ℤ → ℤ → ℤ
move x y = to_z w64 (of_z w64 (to_z w64 (of_z w64 x) -ℤ to_z w64 (of_z w64 y)))

pub overflow_mul-cents : goal.overflow_mul-cents
overflow_mul-cents c =
    let m = few_cents c.args.family in
    product_fits (one c.from-3.result) (move c.from.result c.from-2.result) 20 20000000 (omega (arith, ints)) (omega (arith, ints)) (omega arith)

pub invariant_of-result : goal.invariant_of-result
invariant_of-result c =
    let m = few_cents c.args.family in
    let x = one c.from-3.result in
    let y = move c.from.result c.from-2.result in
    let h : nat_abs x ≤ 20 = omega (arith, ints) in
    let k : nat_abs y ≤ 20000000 = omega (arith, ints) in
    record { small = subst (λ (z : ℤ). nat_abs z ≤ 400000000) (sym (to_z-of_z w64 _ (product_fits x y 20 20000000 h k (omega arith)))) (product_below x y 20 20000000 h k) }

pub returns : goal.returns
returns c =
    let m = few_cents c.args.family in
    let x = one c.from-3.result in
    let y = move c.from.result c.from-2.result in
    let e : x ≡ pos (cents_of c.args.family) = omega (arith, ints) in
    let d : y ≡ pos c.args.to -ℤ c.args.from = omega (arith, ints) in
    to_z-of_z w64 _ (product_fits x y 20 20000000 (omega (arith, ints)) (omega (arith, ints)) (omega arith))
    ∙ ap (λ (z : ℤ). z *ℤ y) e ∙ ap (λ (z : ℤ). pos (cents_of c.args.family) *ℤ z) d
