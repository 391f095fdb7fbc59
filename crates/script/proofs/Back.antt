-- What is written of a price reads as that price.
use Rattle.std.proofs.Common.{◌≡◌, ℕ, ◌+◌, ◌*◌, ◌/◌, ◌%◌, ◌^◌, ◌<◌, [], ◌∷◌, ◌++◌, length, Ok, decimal, fold, sym, refl, ap, subst, inr, arith, rules}
use Rattle.std.proofs.lemmas.Str.Parse.{IsNumeralModel, numerals_by_fold, tells_by_index}
use Rattle.std.proofs.lemmas.Fmt.{decimal_digit, decimal_nonempty, digits_decimal, digits_value-decimal}
use Rattle.std.proofs.lemmas.Grind.{common_steps}
use Rattle.script.specs.Digits.{AllDigits, Numeral, further, value}
use Rattle.script.specs.Numbers.{after_point, Hundredths}
use Rattle.script.specs.Points.{points_text}

own : IsNumeralModel AllDigits value
own = numerals_by_fold AllDigits tells_by_index (fold further) (search rules)

numeral : (n : ℕ) → n < 2 ^ 64 → Numeral (decimal n)
numeral n h = record { some = decimal_nonempty n h; digits = digits_decimal own n h }

two_digits : (a b : ℕ) → a < 10 → b < 10 → Numeral ((48 + a) ∷ (48 + b) ∷ [])
two_digits a b h k = record {
  some = omega arith;
  digits = grind (arith, common_steps);
}

two_written : (a b : ℕ) → a < 10 → b < 10 → decimal a ++ decimal b ≡ (48 + a) ∷ (48 + b) ∷ []
two_written a b h k = grind (arith, decimal_digit)

two_worth : (a b : ℕ) → a < 10 → b < 10 → after_point (decimal a ++ decimal b) ≡ 10 * a + b
two_worth a b h k = grind (arith, two_written)

pub reads_points : (n : ℕ) → n < 2 ^ 32 → Hundredths (points_text n) (Ok n)
reads_points n h =
    let a = n / 10 % 10 in
    let b = n % 10 in
    let one : a < 10 = omega arith in
    let two : b < 10 = omega arith in
    let q : n / 100 < 2 ^ 64 = omega arith in (
      inr (record {
        whole = decimal (n / 100);
        part = decimal a ++ decimal b;
        form = record { joined = refl; front = numeral (n / 100) q; back = subst Numeral (sym (two_written a b one two)) (two_digits a b one two) };
        short = omega (arith, ap length (two_written a b one two));
        counts = omega (arith, digits_value-decimal own (n / 100) q, two_worth a b one two);
      }),
      h,
    )
