-- The final price: the mean of all samples and the close, in hundredths of a point.
use Rattle.std.specs.Prelude.{◌≡◌, ℕ, ◌+◌, ◌*◌, ◌/◌, ◌%◌, ◌<◌, ◌≤◌, List, map, length, sum}
use Rattle.terms.specs.Extremes.{Greatest}
use Rattle.terms.specs.declared.family.Family.{Family}
use Rattle.terms.specs.declared.family.Family.TheVariants.{HangSeng, ChinaEnterprises, MsciTaiwan}
use Rattle.fixings.specs.declared.level.Level.{Level}

-- the levels as numbers, in hundredths of a point
abbrev pub in_hundredths : List Level → List ℕ
in_hundredths levels = map (λ l. l.hundredths) levels

-- the mean, lowered to a whole point
abbrev pub lowered : List ℕ → ℕ
lowered xs = sum xs / (100 * length xs) * 100

-- the mean, rounded to hundredths, a half upwards
abbrev pub rounded : List ℕ → ℕ
rounded xs = (2 * sum xs + length xs) / (2 * length xs)

abbrev pub final_price : Family → List ℕ → ℕ
final_price HangSeng xs = lowered xs
final_price ChinaEnterprises xs = lowered xs
final_price MsciTaiwan xs = rounded xs

-- The same without division.

-- p is whole points, and not above the mean
pub record WholePoints (xs : List ℕ) (p : ℕ) : Type 0 where
  pub whole : p % 100 ≡ 0
  pub not_above : p * length xs ≤ sum xs

-- the mean lies less than half a hundredth above p, and at most half a hundredth below it
pub record Nearest (xs : List ℕ) (p : ℕ) : Type 0 where
  pub from_half_below : 2 * p * length xs ≤ 2 * sum xs + length xs
  pub below_half_above : 2 * sum xs < (2 * p + 1) * length xs

abbrev pub IsFinal : Family → List ℕ → ℕ → Type 0
IsFinal HangSeng xs p = Greatest (WholePoints xs) p
IsFinal ChinaEnterprises xs p = Greatest (WholePoints xs) p
IsFinal MsciTaiwan xs p = Nearest xs p
