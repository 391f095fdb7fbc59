-- What the calls answer.
use Rattle.std.specs.Prelude.{◌≡◌, ℕ, ◌-◌, ◌<◌, ◌≤◌, ◌⊎◌, List, ◌++◌, length, drop, Ok, Err, Result, slice_index}
use Rattle.terms.specs.declared.family.Family.{Family}
use Rattle.terms.specs.declared.steps.StepBand.{StepBand}
use Rattle.terms.specs.declared.refusal.Reason.TheVariants.{OutOfRange, NoSpace}
use Rattle.terms.specs.declared.refusal.Refusal.{Refusal}
use Rattle.terms.specs.Refusals.{plain}
use Rattle.terms.specs.Families.{family_number, bands_of}
use Rattle.terms.specs.Ranges.{PriceRange}
use Rattle.strikelists.specs.Strikes.{Nearest, StrikeList}

-- The numbers ask for a list: f has the family's number, and the level is a price.
pub record Asked (family level : ℕ) (f : Family) : Type 0 where
  pub known : family_number f ≡ family
  pub price : PriceRange level

-- The nearest strike, or 4 where the family or the level is out of range.
abbrev pub NearestAnswer : ℕ → ℕ → Result ℕ Refusal → Type 0
NearestAnswer family level (Ok a) = (f : Family) × Asked family level f × Nearest (bands_of f) level a
NearestAnswer family level (Err e) = ((f : Family) → Asked family level f → ⊥) × (e ≡ plain OutOfRange)

-- The space holds the whole list in front, n strikes, and behind it what it held before.
pub record Written (family level n : ℕ) (old new : List ℕ) : Type 0 where
  pub f : Family
  pub asked : Asked family level f
  pub list : List ℕ
  pub words : StrikeList (bands_of f) level list
  pub count : n ≡ length list
  pub room : n ≤ length old
  pub after : new ≡ list ++ drop n old

-- The list is longer than the space.
pub record TooLong (family level : ℕ) (old : List ℕ) : Type 0 where
  pub f : Family
  pub asked : Asked family level f
  pub list : List ℕ
  pub words : StrikeList (bands_of f) level list
  pub short : length old < length list

-- 4 where the family or the level is out of range, then 12 where the list is longer than the space; nothing is written.
pub record Unwritten (family level : ℕ) (old new : List ℕ) (e : Refusal) : Type 0 where
  pub same : new ≡ old
  pub why : (((f : Family) → Asked family level f → ⊥) × (e ≡ plain OutOfRange)) ⊎ (TooLong family level old × (e ≡ plain NoSpace))

abbrev pub ListAnswer : ℕ → ℕ → List ℕ → List ℕ → Result ℕ Refusal → Type 0
ListAnswer family level old new (Ok n) = Written family level n old new
ListAnswer family level old new (Err e) = Unwritten family level old new e

-- The words leave no choice: two strikes that are nearest are one, and two lists around a level are one.
abbrev pub OneNearest : Type 0
OneNearest = (bands : List StepBand) (level a b : ℕ) → Nearest bands level a → Nearest bands level b → a ≡ b

abbrev pub OneList : Type 0
OneList = (bands : List StepBand) (level : ℕ) (xs ys : List ℕ) → StrikeList bands level xs → StrikeList bands level ys → xs ≡ ys

-- A worked list: around a level of f, A is `middle`, and `n` strikes go from `low` to `high`.
pub record Worked (f : Family) (level middle n low high : ℕ) : Type 0 where
  pub nearest : Nearest (bands_of f) level middle
  pub there : (xs : List ℕ) × StrikeList (bands_of f) level xs
  pub count : (xs : List ℕ) → StrikeList (bands_of f) level xs → length xs ≡ n
  pub first : (xs : List ℕ) → StrikeList (bands_of f) level xs → slice_index xs 0 ≡ low
  pub last : (xs : List ℕ) → StrikeList (bands_of f) level xs → slice_index xs (n - 1) ≡ high
