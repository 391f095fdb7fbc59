-- One answer, and no other.
use Rattle.std.specs.Prelude.{◌≡◌}

-- P holds of r, and of nothing else.
pub record Only {A : Type 0} (P : A → Type 0) (r : A) : Type 0 where
  pub holds : P r
  pub alone : (s : A) → P s → s ≡ r
