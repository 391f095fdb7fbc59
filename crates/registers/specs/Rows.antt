-- Rows: each a key and a content, in the order of their keys.
use Rattle.std.specs.Prelude.{ℕ, suc, ◌≤◌, Bool, cond, ◌||◌, List, [], ◌∷◌, map, length, is_some, Some, None, Ok, Err, Option, Result, ◌==◌, nat_lt}

abbrev pub Rows : Type 0 → Type 0
Rows V = List (ℕ × V)

abbrev pub keys_in : {V : Type 0} → Rows V → List ℕ
keys_in {V} rs = map (λ (r : ℕ × V). r.0) rs

abbrev pub contents_in : {V : Type 0} → Rows V → List V
contents_in {V} rs = map (λ (r : ℕ × V). r.1) rs

-- each key is at least lo, and greater than the one before it
abbrev pub Rising : {V : Type 0} → ℕ → Rows V → Type 0
Rising lo [] = Unit {0}
Rising lo (r ∷ rs) = (lo ≤ r.0) × Rising (suc r.0) rs

-- the content under the key k: the look-up stops at the first larger key
unfoldable pub lookup : {V : Type 0} → Rows V → ℕ → Option V
lookup [] k = None
lookup (r ∷ rs) k = cond (nat_lt k r.0) None (cond (k == r.0) (Some r.1) (lookup rs k))

-- the rows with v under the key k, in place of what stands there
unfoldable pub put : {V : Type 0} → ℕ → V → Rows V → Rows V
put k v [] = (k, v) ∷ []
put k v (r ∷ rs) = cond (nat_lt k r.0) ((k, v) ∷ r ∷ rs) (cond (k == r.0) ((k, v) ∷ rs) (r ∷ put k v rs))

-- the rows but that of the key k
unfoldable pub without : {V : Type 0} → ℕ → Rows V → Rows V
without k [] = []
without k (r ∷ rs) = cond (nat_lt k r.0) (r ∷ rs) (cond (k == r.0) rs (r ∷ without k rs))

-- the place of the key k: how many rows stand before the first whose key is at least k
unfoldable pub below : {V : Type 0} → ℕ → Rows V → ℕ
below k [] = 0
below k (r ∷ rs) = cond (nat_lt r.0 k) (suc (below k rs)) 0

-- a row of the key k fits: one stands there already, or there is place for one more
abbrev pub place_for : {V : Type 0} → ℕ → Rows V → ℕ → Bool
place_for k rs room = is_some (lookup rs k) || nat_lt (length rs) room

-- done, or the content given back
abbrev pub answered : {V : Type 0} → Bool → V → Result Unit V
answered done v = cond done (Ok tt) (Err v)
