-- Sums over rows, of whole numbers and of signed ones.
use Rattle.std.specs.Prelude.{ℕ, ◌+◌, [], ◌∷◌, ℤ, pos, ◌+ℤ◌, Some, None, Option}
use Rattle.registers.specs.Rows.{Rows}

unfoldable pub total : {V : Type 0} → (ℕ → V → ℕ) → Rows V → ℕ
total f [] = 0
total f (r ∷ rs) = f r.0 r.1 + total f rs

unfoldable pub total_ℤ : {V : Type 0} → (ℕ → V → ℤ) → Rows V → ℤ
total_ℤ f [] = pos 0
total_ℤ f (r ∷ rs) = f r.0 r.1 +ℤ total_ℤ f rs

-- what the row of the key k adds, if there is one
abbrev pub share : {V : Type 0} → (ℕ → V → ℕ) → ℕ → Option V → ℕ
share f k None = 0
share f k (Some v) = f k v

abbrev pub share_ℤ : {V : Type 0} → (ℕ → V → ℤ) → ℕ → Option V → ℤ
share_ℤ f k None = pos 0
share_ℤ f k (Some v) = f k v
