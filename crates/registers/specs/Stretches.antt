-- Rows in three parts: those before the key a, those from a to below b, and the rest.
use Rattle.std.specs.Prelude.{◌≡◌, ℕ, ◌+◌, ◌-◌, List, ◌++◌, length, take, drop}
use Rattle.std.specs.List.{zip}
use Rattle.registers.specs.Rows.{Rows, below, keys_in}

abbrev pub front : {V : Type 0} → ℕ → Rows V → Rows V
front a rs = take (below a rs) rs

-- the rows from the key a on
abbrev pub onwards : {V : Type 0} → ℕ → Rows V → Rows V
onwards a rs = drop (below a rs) rs

abbrev pub stretch : {V : Type 0} → ℕ → ℕ → Rows V → Rows V
stretch a b rs = front b (onwards a rs)

abbrev pub rest : {V : Type 0} → ℕ → ℕ → Rows V → Rows V
rest a b rs = onwards b (onwards a rs)

-- the places of the stretch: the first, and the one past the last
pub record StretchAt {V : Type 0} (a b : ℕ) (rs : Rows V) (from to : ℕ) : Type 0 where
  pub first : from ≡ length (front a rs)
  pub last : to ≡ from + length (stretch a b rs)

-- a list with ws from the place `from` to the place `to`
abbrev pub patched : {X : Type 0} → ℕ → ℕ → List X → List X → List X
patched from to ws xs = take from xs ++ (ws ++ drop (to - from) (drop from xs))

-- the rows with other contents in the stretch, as many
abbrev pub rewritten : {V : Type 0} → ℕ → ℕ → List V → Rows V → Rows V
rewritten a b ws rs = front a rs ++ (zip (keys_in (stretch a b rs)) ws ++ rest a b rs)
