-- The end of a loop over the rows of a series.
use Rattle.std.proofs.Common.{◌≡◌, ℕ, [], ◌∷◌, ◌⊎◌, List, refl, inl, inr}
use Rattle.std.specs.List.{zip}

-- nothing is left
pub over : {X : Type 0} (ks : List ℕ) (vs : List X) → (ks ≡ []) ⊎ (vs ≡ []) → zip ks vs ≡ []
over ks vs (inl e) = rw e refl
over [] vs (inr e) = refl
over (k ∷ ks) vs (inr e) = rw e refl
