-- Keys in order, and where a key stands among them.
use Rattle.std.specs.Prelude.{◌≡◌, ℕ, ◌<◌, ◌≤◌, List, length, Ok, Err, Result, slice_index}

-- each key is less than every later one
abbrev pub Ascending : List ℕ → Type 0
Ascending ks = (i j : ℕ) → i < j → j < length ks → slice_index ks i < slice_index ks j

-- each key before the place i is less than the key
abbrev pub Before : List ℕ → ℕ → ℕ → Type 0
Before ks key i = (m : ℕ) → m < i → slice_index ks m < key

-- Ok: the key stands at the place. Err: it stands nowhere, and would go to the place.
abbrev pub Found : List ℕ → ℕ → Result ℕ ℕ → Type 0
Found ks key (Ok i) = (i < length ks) × (slice_index ks i ≡ key)
Found ks key (Err i) = (i ≤ length ks) × Before ks key i × ((k : ℕ) → i ≤ k → k < length ks → key < slice_index ks k)

-- no key from the place i on is less than the key
abbrev pub After : List ℕ → ℕ → ℕ → Type 0
After ks key i = (k : ℕ) → i ≤ k → k < length ks → key ≤ slice_index ks k

-- just the keys before the place i are less than the key
pub record Split (ks : List ℕ) (key i : ℕ) : Type 0 where
  pub within : i ≤ length ks
  pub before : Before ks key i
  pub after : After ks key i
