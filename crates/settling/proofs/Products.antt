-- Products that fit.
use Rattle.std.proofs.Common.{ℕ, ◌*◌, ◌^◌, ◌<◌, ◌≤◌, ℤ, ◌*ℤ◌, nat_abs, arith, w64, SFits}
use Rattle.std.proofs.lemmas.Int.{ints}
use Rattle.tables.proofs.Products.{product_below}

pub product_fits : (a b : ℤ) (m n : ℕ) → nat_abs a ≤ m → nat_abs b ≤ n → m * n < 2 ^ 63 → SFits w64 (a *ℤ b)
product_fits a b m n h k l = let p = product_below a b m n h k in omega (arith, ints)
