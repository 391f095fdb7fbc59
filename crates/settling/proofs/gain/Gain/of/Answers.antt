use Rattle.std.proofs.Common.{◌≡◌, ◌^◌, ℤ, ◌*ℤ◌, ap, ◌∙◌, arith, w64, to_z, of_z}
use Rattle.std.proofs.lemmas.Int.{ints, to_z-of_z}
use Rattle.positions.specs.Positions.{units}
use Rattle.settling.proofs.Products.{product_fits}
use Rattle.settling.proofs.gain.Gain.of.Goals as goal

pub overflow_mul-result : goal.overflow_mul-result
overflow_mul-result c =
    let s = c.args.self.small in
    product_fits (to_z w64 (of_z w64 c.units.result)) (to_z w64 (of_z w64 c.args.self.cents)) (2 ^ 34) 400000000 (omega (arith, ints)) (omega (arith, ints)) (omega arith)

pub returns : goal.returns
returns c =
    let s = c.args.self.small in
    let u : to_z w64 (of_z w64 c.units.result) ≡ c.units.result = omega (arith, ints) in
    let g : to_z w64 (of_z w64 c.args.self.cents) ≡ c.args.self.cents = omega (arith, ints) in
    to_z-of_z w64 _ (product_fits (to_z w64 (of_z w64 c.units.result)) (to_z w64 (of_z w64 c.args.self.cents)) (2 ^ 34) 400000000 (omega (arith, ints)) (omega (arith, ints)) (omega arith))
    ∙ ap (λ (x : ℤ). x *ℤ to_z w64 (of_z w64 c.args.self.cents)) (u ∙ c.units.ensures.value)
    ∙ ap (λ (x : ℤ). units c.args.position *ℤ x) g
