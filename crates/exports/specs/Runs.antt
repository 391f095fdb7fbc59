-- Whole runs over a register of numbers: one step for each key.
use Rattle.std.specs.Prelude.{◌≡◌, ℕ, ◌+◌, ◌%◌, ◌^◌, min, cond, ◌⊎◌, List, [], ◌++◌, length, is_some, fold}
use Rattle.std.specs.Option.{unwrap_or}
use Rattle.registers.specs.Rows.{Rows, lookup, put, without, place_for}
use Rattle.registers.specs.Stretches.{front, stretch, rest}

-- a sum that wraps at 64 bits
abbrev pub plus : ℕ → ℕ → ℕ
plus sum n = (sum + n) % 2 ^ 64

-- the key put in as its own content, if there is place
abbrev pub filled_by : ℕ → Rows ℕ → ℕ → Rows ℕ
filled_by room rs k = cond (place_for k rs room) (put k k rs) rs

abbrev pub filled : ℕ → List ℕ → Rows ℕ
filled room keys = fold (filled_by room) [] keys

-- the sum with the content of the key, if it stands
abbrev pub found_by : Rows ℕ → ℕ → ℕ → ℕ
found_by rs sum k = plus sum (unwrap_or (lookup rs k) 0)

-- the rows and the sum after the key was taken out, or put in where it does not stand
abbrev pub toggled_by : ℕ → Rows ℕ × ℕ → ℕ → Rows ℕ × ℕ
toggled_by room s k = cond (is_some (lookup s.0 k)) (without k s.0, plus s.1 (unwrap_or (lookup s.0 k) 0)) (filled_by room s.0 k, s.1)

-- the rows and the sum after the stretch of 64 keys from a was taken out
abbrev pub cut_by : Rows ℕ × ℕ → ℕ → Rows ℕ × ℕ
cut_by s a = let b = min (a + 64) 18446744073709551615 in (front a s.0 ++ rest a b s.0, plus s.1 (length (stretch a b s.0)))

-- n, or 0 for want of memory
abbrev pub OrNone : ℕ → ℕ → Type 0
OrNone r n = (r ≡ n) ⊎ (r ≡ 0)
