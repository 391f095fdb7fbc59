-- The products that the code of a trade works out.
use Rattle.std.proofs.Common.{◌≡◌, ◌*◌, ◌^◌, ◌≤◌, ℤ, pos, ◌*ℤ◌, nat_abs, ap, ◌∙◌, ap₂, arith, w32, w64, SFits, to_z, of_z}
use mir.Syntax.{w128}
use Rattle.std.proofs.lemmas.Int.{ints, to_z-of_z}
use Rattle.terms.specs.declared.family.Family.{Family}
use Rattle.terms.specs.Families.{cents_of}
use Rattle.positions.specs.Money.{amount}
use Rattle.ledger.specs.Book.{weight}
use Rattle.tables.proofs.Products.{product_below, few_cents}

-- units at a delta, as the code multiplies them
abbrev held : ℤ → ℤ
held z = to_z w128 (of_z w128 z)

pub weighed : (u d x y : ℤ) → nat_abs u ≤ 2 ^ 34 → SFits w32 d → x ≡ to_z w64 (of_z w64 u) → y ≡ to_z w32 (of_z w32 d) → (held (held x *ℤ held y) ≡ weight u d) × (nat_abs (weight u d) ≤ 2 ^ 65)
unfolding weight
weighed u d x y hu fd ex ey =
    let hd : nat_abs d ≤ 2 ^ 31 = omega (arith, ints) in
    let m = product_below u d (2 ^ 34) (2 ^ 31) hu hd in
    let fits : SFits w128 (u *ℤ d) = omega (arith, ints) in
    let eu : held x ≡ u = omega (arith, ints) in
    let ed : held y ≡ d = omega (arith, ints) in
    (ap₂ (λ (i j : ℤ). held (i *ℤ j)) eu ed ∙ to_z-of_z w128 (u *ℤ d) fits, m)

-- units at cents a hundredth, as the code multiplies them
abbrev kept : ℤ → ℤ
kept z = to_z w64 (of_z w64 z)

pub record InCents (f : Family) (n p product : ℤ) : Type 0 where
  pub fits : SFits w64 product
  pub value : kept product ≡ amount f n p
  pub bound : nat_abs (amount f n p) ≤ 2 ^ 56

pub in_cents : (f : Family) (n x p : ℤ) → nat_abs n ≤ 500000 → nat_abs p ≤ 2 ^ 32 → x ≡ pos (cents_of f) → InCents f n p (kept n *ℤ kept (kept x *ℤ kept p))
unfolding amount
in_cents f n x p hn hp e =
    let c : ℤ = pos (cents_of f) in
    let few = few_cents f in
    let inner = product_below c p 20 (2 ^ 32) few hp in
    let outer = product_below n (c *ℤ p) 500000 (20 * 2 ^ 32) hn inner in
    let en : kept n ≡ n = omega (arith, ints) in
    let ex : kept x ≡ c = omega (arith, ints) in
    let ep : kept p ≡ p = omega (arith, ints) in
    let fi : SFits w64 (c *ℤ p) = omega (arith, ints) in
    let fo : SFits w64 (n *ℤ (c *ℤ p)) = omega (arith, ints) in
    let same : kept n *ℤ kept (kept x *ℤ kept p) ≡ n *ℤ (c *ℤ p) =
    ap₂ ◌*ℤ◌ en (ap₂ (λ (i j : ℤ). kept (i *ℤ j)) ex ep ∙ to_z-of_z w64 (c *ℤ p) fi) in
    record { fits = rw same fo; value = ap kept same ∙ to_z-of_z w64 (n *ℤ (c *ℤ p)) fo; bound = omega arith }
