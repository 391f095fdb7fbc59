-- A price in hundredths as it is written.
use Rattle.std.specs.Prelude.{ℕ, ◌/◌, ◌%◌, List, [], ◌∷◌, ◌++◌, decimal}

-- Whole points, a point, and two decimals.
abbrev pub points_text : ℕ → List ℕ
points_text n = decimal (n / 100) ++ ((46 ∷ []) ++ (decimal (n / 10 % 10) ++ decimal (n % 10)))
