-- The value of digits, one by one.
use Rattle.std.proofs.Common.{◌≡◌, ℕ, zero, suc, ◌+◌, ◌<◌, ◌≤◌, List, [], ◌∷◌, length, get_or, take, fold, Err, arith}
use Rattle.std.proofs.lemmas.List.{take_all}
use Rattle.std.proofs.lemmas.List.Sums.{fold_more}
use Rattle.script.specs.Digits.{further, value}
use Rattle.script.specs.Numbers.{Fitting}
use Rattle.script.specs.declared.numbers.Misread.{Misread}
use Rattle.script.specs.declared.numbers.Misread.TheVariants.{NotANumber, TooFine, TooLarge}

pub grows : (n : ℕ) (w : List ℕ) → n ≤ fold further n w
grows n [] = omega arith
grows n (c ∷ w) = omega (arith, grows (further n c) w)

pub front_le : (n i : ℕ) (w : List ℕ) → fold further n (take i w) ≤ fold further n w
front_le n zero w = grows n w
front_le n (suc i) [] = omega arith
front_le n (suc i) (c ∷ w) = front_le (further n c) i w

-- the digits up to a place write no more than all of them
pub value_take_le : (w : List ℕ) (i : ℕ) → value (take i w) ≤ value w
value_take_le w i = front_le 0 i w

-- one digit more
pub value_more : (w : List ℕ) (i : ℕ) → i < length w → value (take (i + 1) w) ≡ further (value (take i w)) (get_or w i 0)
value_more w i h = grind (arith, fold_more)

-- all digits
pub value_all : (w : List ℕ) (i : ℕ) → length w ≤ i → value (take i w) ≡ value w
value_all w i h = grind (arith, take_all)

-- no number above a refused one is refused for another reason
pub larger_too : (m n : ℕ) (e : Misread) → m ≤ n → Fitting m (Err e) → Fitting n (Err e)
larger_too m n NotANumber h f = f
larger_too m n TooFine h f = f
larger_too m n TooLarge h f = omega arith
