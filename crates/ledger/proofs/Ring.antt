-- The laws of a product of integers, and of amounts, which are linear in units and in the move of a price.
use Rattle.std.proofs.Common.{◌≡◌, ℕ, ◌+◌, ◌*◌, ℤ, pos, ◌+ℤ◌, ◌*ℤ◌, neg_ℤ, ap, ◌∙◌, arith}
use lib.IntN.{*ℤ_comm}
use borrow.Author.Differences.{ints, up, down, sum_is_lem, neg_is, product_is, same_in}
use Rattle.terms.specs.declared.family.Family.{Family}
use Rattle.positions.specs.Money.{amount}
use Rattle.ledger.specs.Book.{weight}

up_* : (a b : ℤ) → up (a *ℤ b) ≡ up a * up b + down a * down b
up_* a b = (product_is a b).0

down_* : (a b : ℤ) → down (a *ℤ b) ≡ up a * down b + down a * up b
down_* a b = (product_is a b).1

up_neg : (b : ℤ) → up (neg_ℤ b) ≡ down b
up_neg b = (neg_is b).0

down_neg : (b : ℤ) → down (neg_ℤ b) ≡ up b
down_neg b = (neg_is b).1

*ℤ-+ℤ : (a b c : ℤ) → a *ℤ (b +ℤ c) ≡ a *ℤ b +ℤ a *ℤ c
*ℤ-+ℤ a b c = omega (arith, ints, ap (λ (n : ℕ). up a * n) (sum_is_lem b c), ap (λ (n : ℕ). down a * n) (sum_is_lem b c))

+ℤ-*ℤ : (a b c : ℤ) → (a +ℤ b) *ℤ c ≡ a *ℤ c +ℤ b *ℤ c
+ℤ-*ℤ a b c = omega (arith, ints, ap (λ (n : ℕ). n * up c) (sum_is_lem a b), ap (λ (n : ℕ). n * down c) (sum_is_lem a b))

*ℤ-negℤ : (a b : ℤ) → a *ℤ neg_ℤ b ≡ neg_ℤ (a *ℤ b)
*ℤ-negℤ a b = same_in _ _ (simp (up_*, down_*, up_neg, down_neg) (omega arith))

neg_ℤ_*ℤ : (a b : ℤ) → neg_ℤ a *ℤ b ≡ neg_ℤ (a *ℤ b)
neg_ℤ_*ℤ a b = *ℤ_comm (neg_ℤ a) b ∙ *ℤ-negℤ b a ∙ ap neg_ℤ (*ℤ_comm b a)

-- ---- amounts
pub amount_+ : (f : Family) (n p q : ℤ) → amount f n (p +ℤ q) ≡ amount f n p +ℤ amount f n q
unfolding amount
amount_+ f n p q = simp (*ℤ-+ℤ)

pub amount_neg : (f : Family) (n p : ℤ) → amount f n (neg_ℤ p) ≡ neg_ℤ (amount f n p)
unfolding amount
amount_neg f n p = simp (*ℤ-negℤ)

pub +-amount : (f : Family) (n m p : ℤ) → amount f (n +ℤ m) p ≡ amount f n p +ℤ amount f m p
unfolding amount
+-amount f n m p = simp (+ℤ-*ℤ)

pub neg_amount : (f : Family) (n p : ℤ) → amount f (neg_ℤ n) p ≡ neg_ℤ (amount f n p)
unfolding amount
neg_amount f n p = simp (neg_ℤ_*ℤ)

pub zero_amount : (f : Family) (p : ℤ) → amount f (pos 0) p ≡ pos 0
unfolding amount
zero_amount f p = omega (arith, ints)

pub amount_zero : (f : Family) (n : ℤ) → amount f n (pos 0) ≡ pos 0
unfolding amount
amount_zero f n = omega (arith, ints)

pub ruleset bilinear = (amount_+, amount_neg, +-amount, neg_amount, zero_amount, amount_zero)

-- ---- units at a delta
pub zero_weight : (d : ℤ) → weight (pos 0) d ≡ pos 0
unfolding weight
zero_weight d = omega (arith, ints)

pub +-weight : (n m d : ℤ) → weight (n +ℤ m) d ≡ weight n d +ℤ weight m d
unfolding weight
+-weight n m d = +ℤ-*ℤ n m d
