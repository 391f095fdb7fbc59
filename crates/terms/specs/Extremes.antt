-- The greatest and the least number of which something holds.
use Rattle.std.specs.Prelude.{ℕ, ◌≤◌}

abbrev pub Greatest : (ℕ → Type 0) → ℕ → Type 0
Greatest P k = P k × ((m : ℕ) → P m → m ≤ k)

abbrev pub Least : (ℕ → Type 0) → ℕ → Type 0
Least P k = P k × ((m : ℕ) → P m → k ≤ m)
