-- The keys of series and of positions.
use Rattle.std.specs.Prelude.{ℕ, ◌+◌, ◌-◌, ◌*◌, ◌/◌, ◌%◌, Bool, ◌==◌}

-- a month's series are neighbours, its future (kind 0, strike 0) first
abbrev pub series_key : ℕ → ℕ → ℕ → ℕ
series_key kind month strike = ((month - 24000) * 5 + kind) * 131072 + strike

abbrev pub future_key : ℕ → ℕ
future_key month = (month - 24000) * 655360

-- whether it is the key of a future
abbrev pub is_future_key : ℕ → Bool
is_future_key series = series % 655360 == 0

-- the positions in a series are neighbours, in the order of accounts
abbrev pub line_key : ℕ → ℕ → ℕ
line_key series account = series * 65536 + account

-- the series and the account of a position's key
abbrev pub series_of_key : ℕ → ℕ
series_of_key line = line / 65536

abbrev pub account_of_key : ℕ → ℕ
account_of_key line = line % 65536
