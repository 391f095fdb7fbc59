-- Which text gives which number, and what is refused.
use Rattle.std.specs.Prelude.{◌≡◌, ℕ, ◌+◌, ◌*◌, ◌^◌, ◌<◌, ◌≤◌, cond, ◌⊎◌, List, ◌∷◌, ◌++◌, length, Ok, Err, Result, ◌==◌, ◌≢◌, slice_index}
use Rattle.script.specs.declared.numbers.Misread.{Misread}
use Rattle.script.specs.declared.numbers.Misread.TheVariants.{NotANumber, TooFine, TooLarge}
use Rattle.script.specs.Digits.{Numeral, value}

-- The answer for a value: the value itself, or that it is too large, 2^32 or more.
abbrev pub Fitting : ℕ → Result ℕ Misread → Type 0
Fitting v (Ok n) = (n ≡ v) × (v < 2 ^ 32)
Fitting v (Err NotANumber) = ⊥
Fitting v (Err TooFine) = ⊥
Fitting v (Err TooLarge) = 2 ^ 32 ≤ v

-- A plain number is a numeral, and gives its value if that is below 2^32. Anything else is not a number.
abbrev pub Number : List ℕ → Result ℕ Misread → Type 0
Number w (Ok n) = Numeral w × (n ≡ value w) × (n < 2 ^ 32)
Number w (Err NotANumber) = Numeral w → ⊥
Number w (Err TooFine) = ⊥
Number w (Err TooLarge) = Numeral w × (2 ^ 32 ≤ value w)

-- The place of a text's first point (46), or the text's length where there is none.
pub record FirstPoint (w : List ℕ) (place : ℕ) : Type 0 where
  pub within : place ≤ length w
  pub before : (k : ℕ) → k < place → slice_index w k ≢ 46
  pub found : place < length w → slice_index w place ≡ 46

-- Points with decimals: a numeral, a point (46) and a numeral.
pub record Decimal (w whole part : List ℕ) : Type 0 where
  pub joined : w ≡ whole ++ 46 ∷ part
  pub front : Numeral whole
  pub back : Numeral part

-- The hundredths of one or two decimals: one decimal is worth tens.
abbrev pub after_point : List ℕ → ℕ
after_point part = cond (length part == 1) (10 * value part) (value part)

-- Whole points, with the number of hundredths in them.
pub record WholePoints (w : List ℕ) (n : ℕ) : Type 0 where
  pub whole : Numeral w
  pub counts : n ≡ 100 * value w

-- Points with one or two decimals, with the number of hundredths in them.
pub record FinePoints (w : List ℕ) (n : ℕ) : Type 0 where
  pub whole : List ℕ
  pub part : List ℕ
  pub form : Decimal w whole part
  pub short : length part ≤ 2
  pub counts : n ≡ 100 * value whole + after_point part

-- Points with three decimals or more.
pub record OverFine (w : List ℕ) : Type 0 where
  pub whole : List ℕ
  pub part : List ℕ
  pub form : Decimal w whole part
  pub long : 3 ≤ length part

-- The text writes that many hundredths.
abbrev pub Writes : List ℕ → ℕ → Type 0
Writes w n = WholePoints w n ⊎ FinePoints w n

-- The text is neither a numeral nor a numeral, a point and a numeral.
pub record Formless (w : List ℕ) : Type 0 where
  pub plain : Numeral w → ⊥
  pub decimal : (whole part : List ℕ) → Decimal w whole part → ⊥

-- Index points with at most two decimals give their hundredths if those are below 2^32. With more decimals the text is
-- too fine, however large, and a text of neither form is not a number.
abbrev pub Hundredths : List ℕ → Result ℕ Misread → Type 0
Hundredths w (Ok n) = Writes w n × (n < 2 ^ 32)
Hundredths w (Err NotANumber) = Formless w
Hundredths w (Err TooFine) = OverFine w
Hundredths w (Err TooLarge) = (n : ℕ) × Writes w n × (2 ^ 32 ≤ n)
