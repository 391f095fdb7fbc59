-- The strikes around a closing level, in words. A step table's strikes are those that it lists: the multiples, not 0,
-- of the step that holds at them.
use Rattle.std.specs.Prelude.{◌≡◌, ℕ, ◌+◌, ◌-◌, ◌*◌, ◌<◌, ◌≤◌, ◌⊎◌, List, length, slice_index}
use Rattle.terms.specs.declared.steps.StepBand.{StepBand}
use Rattle.terms.specs.Extremes.{Greatest, Least}
use Rattle.terms.specs.Steps.{Listed}

-- how far a strike, in points, lies from a level, in hundredths
abbrev pub apart : ℕ → ℕ → ℕ
apart level k = (level - 100 * k) + (100 * k - level)

-- The strike nearest to a level, the lower of two that are as near.
pub record Nearest (bands : List StepBand) (level a : ℕ) : Type 0 where
  pub listed : Listed bands a
  pub closest : (k : ℕ) → Listed bands k → (apart level a < apart level k) ⊎ ((apart level a ≡ apart level k) × (a ≤ k))

-- The lower end of the list around a: the greatest strike K with 10K ≤ 9a, or the first strike where there is none.
abbrev pub LowEnd : List StepBand → ℕ → ℕ → Type 0
LowEnd bands a low =
    Greatest (λ k. Listed bands k × (10 * k ≤ 9 * a)) low
    ⊎ (((k : ℕ) → Listed bands k → 9 * a < 10 * k) × Least (Listed bands) low)

-- The upper end: the least strike K with 10K ≥ 11a.
abbrev pub HighEnd : List StepBand → ℕ → ℕ → Type 0
HighEnd bands a high = Least (λ k. Listed bands k × (11 * a ≤ 10 * k)) high

-- k stands in the list
abbrev pub Holds : List ℕ → ℕ → Type 0
Holds xs k = (i : ℕ) × (i < length xs) × (slice_index xs i ≡ k)

-- Every strike from low to high and nothing else, ascending.
pub record Between (bands : List StepBand) (low high : ℕ) (xs : List ℕ) : Type 0 where
  pub ascends : (i j : ℕ) → i < j → j < length xs → slice_index xs i < slice_index xs j
  pub only : (k : ℕ) → Holds xs k → Listed bands k × (low ≤ k) × (k ≤ high)
  pub every : (k : ℕ) → Listed bands k → low ≤ k → k ≤ high → Holds xs k

-- The strike list around a level: from the lower to the upper end around the nearest strike.
pub record StrikeList (bands : List StepBand) (level : ℕ) (xs : List ℕ) : Type 0 where
  pub middle : ℕ
  pub low : ℕ
  pub high : ℕ
  pub nearest : Nearest bands level middle
  pub low_end : LowEnd bands middle low
  pub high_end : HighEnd bands middle high
  pub all : Between bands low high xs
