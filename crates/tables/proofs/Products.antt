-- How large a product of integers is.
use Rattle.std.proofs.Common.{◌≡◌, ℕ, zero, suc, ◌*◌, ◌≤◌, ℤ, pos, negsuc, ◌*ℤ◌, neg_ℤ, nat_abs, refl, mul-le-mul, arith}
use Rattle.terms.specs.declared.family.Family.{Family}
use Rattle.terms.specs.declared.family.Family.TheVariants.{HangSeng, ChinaEnterprises, MsciTaiwan}
use Rattle.terms.specs.Families.{cents_of}

abs_neg : (n : ℕ) → nat_abs (neg_ℤ (pos n)) ≡ n
abs_neg zero = refl
abs_neg (suc n) = refl

abs_product : (a b : ℤ) → nat_abs (a *ℤ b) ≡ nat_abs a * nat_abs b
abs_product (pos a) (pos b) = refl
abs_product (pos a) (negsuc b) = abs_neg (a * suc b)
abs_product (negsuc a) (pos b) = abs_neg (suc a * b)
abs_product (negsuc a) (negsuc b) = refl

pub product_below : (a b : ℤ) (m n : ℕ) → nat_abs a ≤ m → nat_abs b ≤ n → nat_abs (a *ℤ b) ≤ m * n
product_below a b m n p q = rw abs_product (mul-le-mul p q)

pub few_cents : (f : Family) → cents_of f ≤ 20
few_cents HangSeng = omega arith
few_cents ChinaEnterprises = omega arith
few_cents MsciTaiwan = omega arith
