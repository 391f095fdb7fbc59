-- What stands in rows where nothing is said of a key, rows changed, the rows of one series, and sums over numbers.
use Rattle.std.specs.Prelude.{ℕ, zero, suc, Bool, cond, not, [], ◌∷◌, ℤ, pos, ◌+ℤ◌, is_some, Some, None, filter, Option, ◌==◌, nat_eq}
use Rattle.std.specs.Option.{unwrap_or}
use Rattle.registers.specs.Rows.{Rows, lookup, put, without}
use Rattle.positions.specs.declared.position.Position.{Position}
use Rattle.positions.specs.Positions.{flat, is_flat}
use Rattle.positions.specs.Keys.{series_of_key, account_of_key}

-- what stands under the key k, and d where there is no row
abbrev pub at : {V : Type 0} → V → Rows V → ℕ → V
at d rs k = unwrap_or (lookup rs k) d

abbrev pub present : {V : Type 0} → Rows V → ℕ → Bool
present rs k = is_some (lookup rs k)

-- what stands under k changed by f, from d where there is no row
unfoldable pub change : {V : Type 0} → V → (V → V) → ℕ → Rows V → Rows V
change d f k rs = put k (f (at d rs k)) rs

-- positions with p under k: a flat position has no row
abbrev pub placed : ℕ → Position → Rows Position → Rows Position
placed k p ps = cond (is_flat p) (without k ps) (put k p ps)

unfoldable pub revise : (Position → Position) → ℕ → Rows Position → Rows Position
revise f k ps = placed k (f (at flat ps k)) ps

-- the positions in the series s, all others, and those of an account
abbrev pub in_series : ℕ → Rows Position → Rows Position
in_series s ps = filter (λ r. nat_eq (series_of_key r.0) s) ps

abbrev pub outside : ℕ → Rows Position → Rows Position
outside s ps = filter (λ r. not (series_of_key r.0 == s)) ps

abbrev pub held_by : ℕ → Rows Position → Rows Position
held_by a ps = filter (λ r. nat_eq a (account_of_key r.0)) ps

-- the key of the first row that passes the test
abbrev pub first : {V : Type 0} → (ℕ → V → Bool) → Rows V → Option ℕ
first t [] = None
first t (r ∷ rs) = cond (t r.0 r.1) (Some r.0) (first t rs)

-- something holds of each row
abbrev pub Each : {V : Type 0} → (ℕ → V → Type 0) → Rows V → Type 0
Each P [] = Unit {0}
Each P (r ∷ rs) = P r.0 r.1 × Each P rs

-- the sum of f over the numbers below n
unfoldable pub sum_below : ℕ → (ℕ → ℤ) → ℤ
sum_below zero f = pos 0
sum_below (suc n) f = f n +ℤ sum_below n f
