-- Decimal digits, and the number that they write.
use Rattle.std.specs.Prelude.{ℕ, ◌+◌, ◌-◌, ◌*◌, ◌<◌, List, length, fold, slice_index}
use Rattle.std.specs.Int.{IsInRange}

-- Every byte is that of a digit, 48 for 0 to 57 for 9.
abbrev pub AllDigits : List ℕ → Type 0
AllDigits w = (k : ℕ) → k < length w → IsInRange 48 57 (slice_index w k)

-- A numeral: one digit or more, and nothing else.
pub record Numeral (w : List ℕ) : Type 0 where
  pub some : 0 < length w
  pub digits : AllDigits w

-- The number so far, with one more digit read.
abbrev pub further : ℕ → ℕ → ℕ
further n c = n * 10 + (c - 48)

-- The number that digits write.
abbrev pub value : List ℕ → ℕ
value w = fold further 0 w
