-- One account and an amount.
use Rattle.std.proofs.Common.{◌≡◌, ℕ, Bool, true, false, cond, ℤ, ◌+ℤ◌, Some, None, Option, unwrap_or, sym, refl, ap, ◌∙◌, arith, w64, SFits, to_z, of_z}
use Rattle.std.proofs.lemmas.Int.{ints, to_z-of_z}
use Rattle.std.proofs.lemmas.Bool.{leb-true}
use Rattle.registers.specs.Rows.{Rows, lookup, put}
use Rattle.positions.specs.Money.{balance_in}
use Rattle.ledger.specs.declared.rows.Account.{Account}
use Rattle.ledger.specs.Rows.{change}
use Rattle.ledger.specs.Book.{nobody}
use Rattle.ledger.specs.Post.{paid, pay}
use Rattle.settling.specs.Payments.{takes, affords}

blocked : (b : Bool) (y : ℤ) → None ≡ cond b (Some y) None → b ≡ false
blocked true y e = absurd (let z : ◌≡◌ {A = ℕ} 0 1 = cc in omega arith)
blocked false y e = refl

allowed : (b : Bool) (y z : ℤ) → Some z ≡ cond b (Some y) None → b ≡ true
allowed true y z e = refl
allowed false y z e = absurd (let z : ◌≡◌ {A = ℕ} 0 1 = cc in omega arith)

bare : (x y : ℤ) → SFits w64 x → SFits w64 y → to_z w64 (of_z w64 x) +ℤ to_z w64 (of_z w64 y) ≡ x +ℤ y
bare x y h k = ap (λ (z : ℤ). z +ℤ to_z w64 (of_z w64 y)) (to_z-of_z w64 x h) ∙ ap (λ (z : ℤ). x +ℤ z) (to_z-of_z w64 y k)

-- the code's test of a balance, whose operands went through their bits
module _ (cs : Rows Account) (a : ℕ) (x : ℤ) (c : Account) (h : SFits w64 c.cash) (k : SFits w64 x) (found : lookup cs a ≡ Some c) where
  abbrev sum : ℤ
  sum = to_z w64 (of_z w64 c.cash) +ℤ to_z w64 (of_z w64 x)

  affords_is : affords cs a x ≡ balance_in sum
  affords_is = ap (λ (o : Option Account). takes o x) found ∙ ap balance_in (sym (bare c.cash x h k))

  pub cannot : None ≡ cond (balance_in sum) (Some sum) None → affords cs a x ≡ false
  cannot e = affords_is ∙ blocked (balance_in sum) sum e

  pub can : (z : ℤ) → Some z ≡ cond (balance_in sum) (Some sum) None → affords cs a x ≡ true
  can z e = affords_is ∙ allowed (balance_in sum) sum z e

  fits : affords cs a x ≡ true → SFits w64 sum
  fits e = let b = leb-true _ _ (sym affords_is ∙ e) in omega (arith, ints)

  pub paid_is : affords cs a x ≡ true → put a (record { kind = c.kind; cash = to_z w64 (of_z w64 sum) }) cs ≡ pay a x cs
  unfolding pay change
  paid_is e =
      ap (λ (y : ℤ). put a (record { kind = c.kind; cash = y }) cs) (to_z-of_z w64 sum (fits e) ∙ bare c.cash x h k)
      ∙ ap (λ (o : Option Account). put a (paid x (unwrap_or o nobody)) cs) (sym found)
