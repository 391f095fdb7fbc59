-- The mean as a quotient, and what it means.
use Rattle.std.proofs.Common.{◌≡◌, ℕ, ◌+◌, ◌*◌, ◌/◌, ◌<◌, ◌≤◌, List, [], ◌∷◌, ◌++◌, length, sum, ap, mul_assoc, div-lt_iff_lt-mul, div-add-mod', le-div_iff_mul-le, div-mul-le_self, le_of_mul-le-mul_right, arith}
use native.Mathlib.Nat.{mul-mod_left, lt-div-mul-add}
use Rattle.std.proofs.lemmas.List.{length_push}
use Rattle.std.proofs.lemmas.List.Sums.{sum_by-cons}
use Rattle.terms.specs.declared.family.Family.{Family}
use Rattle.terms.specs.declared.family.Family.TheVariants.{HangSeng, ChinaEnterprises, MsciTaiwan}
use Rattle.terms.specs.Extremes.{Greatest}
use Rattle.fixings.specs.declared.level.Level.{Level}
use Rattle.fixings.specs.Finals.{in_hundredths, final_price, lowered, rounded, WholePoints, Nearest, IsFinal}

-- whole points stay below the prices' bound
pub lowered_most : (t n : ℕ) → 0 < n → t ≤ 10000000 * n → t / (100 * n) * 100 ≤ 10000000
lowered_most t n some h =
    let q = t / (100 * n) in
    let l = div-mul-le_self t (100 * n) in
    let e = mul_assoc q 100 n in
    let k : q * 100 * n ≤ 10000000 * n = omega (arith, l, e) in
    le_of_mul-le-mul_right k some

-- and so do rounded hundredths
pub rounded_most : (t n : ℕ) → 0 < n → t ≤ 10000000 * n → (2 * t + n) / (2 * n) ≤ 10000000
rounded_most t n some h =
    let l : 2 * t + n < 10000001 * (2 * n) = omega arith in
    let d : 0 < 2 * n = omega arith in
    let k : (2 * t + n) / (2 * n) < 10000001 = (div-lt_iff_lt-mul d).1 l in
    omega arith

-- a sum of levels, of which none passes the highest one
pub sum_most : (ls : List Level) → sum (in_hundredths ls) ≤ 10000000 * length ls
sum_most [] = omega arith
sum_most (l ∷ ls) = omega (arith, l.most, sum_most ls, sum_by-cons (λ x. x) l.hundredths (in_hundredths ls))

greatest : (xs : List ℕ) → 0 < length xs → Greatest (WholePoints xs) (lowered xs)
greatest xs some =
    let n = length xs in
    let q = sum xs / (100 * n) in
    let d : 0 < 100 * n = omega arith in (
      record { whole = mul-mod_left q 100; not_above = grind (arith, div-mul-le_self (sum xs) (100 * n)) },
      λ m w.
          let e : (m / 100) * 100 ≡ m = omega (arith, div-add-mod' m 100, w.whole) in
          let l : (m / 100) * (100 * n) ≤ sum xs = grind (arith, ap (λ k. k * n) e, w.not_above) in
          omega (arith, e, (le-div_iff_mul-le d).1 l),
    )

nearest : (xs : List ℕ) → 0 < length xs → Nearest xs (rounded xs)
nearest xs some =
    let n = length xs in
    let t = 2 * sum xs + n in
    let d : 0 < 2 * n = omega arith in
    let l = div-mul-le_self t (2 * n) in
    let u = lt-div-mul-add {a = t} d in
    record { from_half_below = grind (arith, l); below_half_above = grind (arith, u) }

final_meant : (f : Family) (xs : List ℕ) → 0 < length xs → IsFinal f xs (final_price f xs)
final_meant HangSeng xs some = greatest xs some
final_meant ChinaEnterprises xs some = greatest xs some
final_meant MsciTaiwan xs some = nearest xs some

-- the final price of the samples and the close has its meaning
pub meant : (f : Family) (xs : List ℕ) (x p : ℕ) → p ≡ final_price f (xs ++ x ∷ []) → IsFinal f (xs ++ x ∷ []) p
meant f xs x p e = rw e (final_meant f (xs ++ x ∷ []) (omega (arith, length_push xs x)))
