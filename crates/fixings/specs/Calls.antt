-- What a fixing holds, and what its calls answer.
use Rattle.std.specs.Prelude.{◌≡◌, ℕ, ◌<◌, ◌⊎◌, List, [], ◌∷◌, ◌++◌, length, Ok, Err, Result, slice_index}
use Rattle.terms.specs.declared.refusal.Reason.TheVariants.{OutOfRange, WrongState}
use Rattle.terms.specs.declared.refusal.Refusal.{Refusal}
use Rattle.terms.specs.Refusals.{plain}
use Rattle.terms.specs.Ranges.{Within, PriceRange}
use Rattle.terms.specs.Families.{family_number}
use Rattle.fixings.specs.declared.open.OpenFixing.{OpenFixing}
use Rattle.fixings.specs.declared.closed.ClosedFixing.{ClosedFixing}
use Rattle.fixings.specs.Finals.{in_hundredths, final_price, IsFinal}

-- the samples so far, in the order in which they came
abbrev pub taken : OpenFixing → List ℕ
taken o = in_hundredths o.samples.items

-- samples are still to come
abbrev pub Lacking : OpenFixing → Type 0
Lacking o = length (taken o) < o.expected

-- all expected samples are there
abbrev pub Complete : OpenFixing → Type 0
Complete o = length (taken o) ≡ o.expected

-- three families, and 1 to 200 samples
pub record BeginRange (family expected : ℕ) : Type 0 where
  pub of_family : family < 3
  pub of_count : Within 1 200 expected

pub record Begun (family expected : ℕ) (o : OpenFixing) : Type 0 where
  pub range : BeginRange family expected
  pub has_family : family_number o.family ≡ family
  pub expects : o.expected ≡ expected
  pub none_taken : taken o ≡ []

abbrev pub Begins : ℕ → ℕ → Result OpenFixing Refusal → Type 0
Begins family expected (Ok o) = Begun family expected o
Begins family expected (Err e) = (BeginRange family expected → ⊥) × (e ≡ plain OutOfRange)

-- the fixing n is o with one sample more
pub record Sampled (o : OpenFixing) (p : ℕ) (n : OpenFixing) : Type 0 where
  pub range : PriceRange p
  pub room : Lacking o
  pub keeps_family : n.family ≡ o.family
  pub keeps_expected : n.expected ≡ o.expected
  pub adds : taken n ≡ taken o ++ p ∷ []

-- 4 for what is no price, and otherwise 8 where all samples are there
abbrev pub Samples : OpenFixing → ℕ → OpenFixing → Result Unit Refusal → Type 0
Samples o p n (Ok _) = Sampled o p n
Samples o p n (Err e) =
    (n ≡ o) × (((PriceRange p → ⊥) × (e ≡ plain OutOfRange)) ⊎ (PriceRange p × Complete o × (e ≡ plain WrongState)))

-- the fixing o, closed by the value v
pub record Closed (o : OpenFixing) (v : ℕ) (g : ClosedFixing) : Type 0 where
  pub range : PriceRange v
  pub complete : Complete o
  pub keeps_family : g.family ≡ o.family
  pub final : g.price.hundredths ≡ final_price o.family (taken o ++ v ∷ [])
  pub is_final : IsFinal o.family (taken o ++ v ∷ []) g.price.hundredths

-- 4 for what is no price, and otherwise 8 where samples are still to come
abbrev pub Closes : OpenFixing → ℕ → Result ClosedFixing (Refusal × OpenFixing) → Type 0
Closes o v (Ok g) = Closed o v g
Closes o v (Err (e, back)) =
    (back ≡ o) × (((PriceRange v → ⊥) × (e ≡ plain OutOfRange)) ⊎ (PriceRange v × Lacking o × (e ≡ plain WrongState)))

-- every sample is a price
abbrev pub AllPrices : List ℕ → Type 0
AllPrices samples = (k : ℕ) → k < length samples → PriceRange (slice_index samples k)

-- all that a whole fixing is made of is in range
pub record FixRange (family : ℕ) (samples : List ℕ) (close : ℕ) : Type 0 where
  pub begins : BeginRange family (length samples)
  pub prices : AllPrices samples
  pub closes : PriceRange close

-- the family's final price of these samples and this close
pub record Fixed (family : ℕ) (samples : List ℕ) (close : ℕ) (g : ClosedFixing) : Type 0 where
  pub range : FixRange family samples close
  pub has_family : family_number g.family ≡ family
  pub final : g.price.hundredths ≡ final_price g.family (samples ++ close ∷ [])

-- A whole fixing, or 4 where something is out of range.
abbrev pub Fixes : ℕ → List ℕ → ℕ → Result ClosedFixing Refusal → Type 0
Fixes family samples close (Ok g) = Fixed family samples close g
Fixes family samples close (Err e) = (FixRange family samples close → ⊥) × (e ≡ plain OutOfRange)

-- A fixing that has taken all of the samples, or 4 where one of them is no price.
abbrev pub TakesAll : OpenFixing → List ℕ → Result OpenFixing Refusal → Type 0
TakesAll o samples (Ok n) = (n.family ≡ o.family) × (n.expected ≡ o.expected) × (taken n ≡ samples) × AllPrices samples
TakesAll o samples (Err e) = (AllPrices samples → ⊥) × (e ≡ plain OutOfRange)
