-- The ranges of the numbers that offices send.
use Rattle.std.specs.Prelude.{ℕ, ◌≤◌}

-- from low to high, both among them
pub record Within (low high n : ℕ) : Type 0 where
  pub least : low ≤ n
  pub most : n ≤ high

-- a price, in hundredths of a point
abbrev pub PriceRange : ℕ → Type 0
PriceRange n = Within 1 10000000 n

-- a month, year × 12 + month − 1: January 2000 to December 2099
abbrev pub MonthRange : ℕ → Type 0
MonthRange n = Within 24000 25199 n

-- an account's number: 65,535 is none
abbrev pub AccountRange : ℕ → Type 0
AccountRange n = n ≤ 65534

-- the contracts of one trade or one close
abbrev pub ContractsRange : ℕ → Type 0
ContractsRange n = Within 1 100000 n
