-- The steps between strikes, and the strikes that they list.
use Rattle.std.specs.Prelude.{◌≡◌, ℕ, ◌+◌, ◌%◌, ◌<◌, ◌≤◌, Bool, cond, ◌&&◌, List, [], ◌∷◌, fold, ◌==◌, nat_le, nat_lt}
use Rattle.terms.specs.declared.steps.StepBand.{StepBand}

-- The step that holds at k: that of the last band that begins at or below k, and 1 below all of them.
abbrev pub step_in : List StepBand → ℕ → ℕ
step_in bands k = fold (λ s b. cond (nat_le b.from k) b.step s) 1 bands

-- A strike is listed where it is a multiple, not 0, of the step that holds at it.
pub record Listed (bands : List StepBand) (k : ℕ) : Type 0 where
  pub some : 0 < k
  pub whole : k % step_in bands k ≡ 0

-- The grid has no break where the step changes: one step up from a listed strike stands the next one.
pub record Unbroken (bands : List StepBand) : Type 0 where
  pub rises : (k : ℕ) → 0 < step_in bands k
  pub next : (k : ℕ) → Listed bands k → Listed bands (k + step_in bands k)
  pub none_between : (k m : ℕ) → Listed bands k → Listed bands m → k < m → k + step_in bands k ≤ m

-- Bands that follow a band which begins at a with step s join it and each other: each begins not below the one before,
-- at a multiple of its own step and of the step before.
abbrev pub joins : ℕ → ℕ → List StepBand → Bool
joins a s [] = nat_lt 0 s && a % s == 0
joins a s (b ∷ bs) = (nat_lt 0 s && a % s == 0) && ((nat_le a b.from && b.from % s == 0) && joins b.from b.step bs)

-- The computed test of a step table.
abbrev pub joined : List StepBand → Bool
joined bands = joins 0 1 bands
