-- Which series a family has, which sizes they have, and the deltas that they take.
use Rattle.std.specs.Prelude.{◌≡◌, ℕ, ◌%◌, Bool, true, false, ◌&&◌, ◌⊎◌, ℤ, pos, negsuc, ◌≤ℤ◌, Ok, Err, Result, ◌==◌, nat_le}
use Rattle.terms.specs.declared.family.Family.{Family}
use Rattle.terms.specs.declared.kinds.SeriesKind.{SeriesKind}
use Rattle.terms.specs.declared.kinds.SeriesKind.TheVariants.{Future, Call, Put, CallOnFuture, PutOnFuture}
use Rattle.terms.specs.declared.kinds.Size.{Size}
use Rattle.terms.specs.declared.kinds.Size.TheVariants.{Full, Mini}
use Rattle.series.specs.declared.series.Series.{Series}
use Rattle.series.specs.declared.delta.Delta.{Delta}
use Rattle.terms.specs.declared.refusal.Reason.TheVariants.{OutOfRange, OffStep}
use Rattle.terms.specs.declared.refusal.Refusal.{Refusal}
use Rattle.terms.specs.Refusals.{plain}
use Rattle.terms.specs.Kinds.{kind_number}
use Rattle.terms.specs.Families.{minis_in, future_options_in, bands_of}
use Rattle.terms.specs.Ranges.{MonthRange}
use Rattle.terms.specs.Steps.{step_in}

-- every family has futures, calls and puts; some have options on the future too
abbrev pub offers : Family → SeriesKind → Bool
offers f Future = true
offers f Call = true
offers f Put = true
offers f CallOnFuture = future_options_in f
offers f PutOnFuture = future_options_in f

-- every series has full contracts; minis belong to the family, and options on the future have none
abbrev pub size_in : Family → SeriesKind → Size → Bool
size_in f k Full = true
size_in f Future Mini = minis_in f
size_in f Call Mini = minis_in f
size_in f Put Mini = minis_in f
size_in f CallOnFuture Mini = false
size_in f PutOnFuture Mini = false

-- a future's strike is 0, an option's 1 to 110,000
abbrev pub takes_strike : SeriesKind → ℕ → Bool
takes_strike Future k = k == 0
takes_strike Call k = nat_le 1 k && nat_le k 110000
takes_strike Put k = nat_le 1 k && nat_le k 110000
takes_strike CallOnFuture k = nat_le 1 k && nat_le k 110000
takes_strike PutOnFuture k = nat_le 1 k && nat_le k 110000

-- The numbers of a series of kind k are in range for the family.
pub record SeriesRange (f : Family) (k : SeriesKind) (month strike : ℕ) : Type 0 where
  pub offered : offers f k ≡ true
  pub in_months : MonthRange month
  pub in_strikes : takes_strike k strike ≡ true

-- The strike is a multiple of the step that holds at it (as a future's 0 is).
abbrev pub OnStep : Family → ℕ → Type 0
OnStep f strike = strike % step_in (bands_of f) strike ≡ 0

-- The series has these numbers, and they are in range for the family.
pub record HasNumbers (f : Family) (kind month strike : ℕ) (s : Series) : Type 0 where
  pub has_kind : kind_number s.kind ≡ kind
  pub has_month : s.month.number ≡ month
  pub has_strike : s.strike ≡ strike
  pub range : SeriesRange f s.kind month strike

-- 4 where no kind of that number has the numbers in range
abbrev pub SeriesNumbered : Family → ℕ → ℕ → ℕ → Result Series Refusal → Type 0
SeriesNumbered f kind month strike (Ok s) = HasNumbers f kind month strike s
SeriesNumbered f kind month strike (Err e) = ((k : SeriesKind) → kind_number k ≡ kind → SeriesRange f k month strike → ⊥) × (e ≡ plain OutOfRange)

-- The series that has these numbers is well formed.
pub record WellFormed (f : Family) (kind month strike : ℕ) (s : Series) : Type 0 where
  pub has_kind : kind_number s.kind ≡ kind
  pub has_month : s.month.number ≡ month
  pub has_strike : s.strike ≡ strike
  pub range : SeriesRange f s.kind month strike
  pub on_step : OnStep f strike

-- 4 where no kind of that number has the numbers in range, and otherwise 5 where the strike is off its step
abbrev pub SeriesChecked : Family → ℕ → ℕ → ℕ → Result Series Refusal → Type 0
SeriesChecked f kind month strike (Ok s) = WellFormed f kind month strike s
SeriesChecked f kind month strike (Err e) =
    (((k : SeriesKind) → kind_number k ≡ kind → SeriesRange f k month strike → ⊥) × (e ≡ plain OutOfRange))
    ⊎ (((k : SeriesKind) × (kind_number k ≡ kind) × SeriesRange f k month strike) × (OnStep f strike → ⊥) × (e ≡ plain OffStep))

-- deltas in ten-thousandths: 10,000 for a future, 0 to 10,000 for a call, −10,000 to 0 for a put
abbrev pub lowest_delta : SeriesKind → ℤ
lowest_delta Future = pos 10000
lowest_delta Call = pos 0
lowest_delta Put = negsuc 9999
lowest_delta CallOnFuture = pos 0
lowest_delta PutOnFuture = negsuc 9999

abbrev pub highest_delta : SeriesKind → ℤ
highest_delta Future = pos 10000
highest_delta Call = pos 10000
highest_delta Put = pos 0
highest_delta CallOnFuture = pos 10000
highest_delta PutOnFuture = pos 0

pub record DeltaRange (k : SeriesKind) (d : ℤ) : Type 0 where
  pub least : lowest_delta k ≤ℤ d
  pub most : d ≤ℤ highest_delta k

abbrev pub DeltaChecked : SeriesKind → ℤ → Result Delta Refusal → Type 0
DeltaChecked k d (Ok r) = DeltaRange k d × (r.value ≡ d)
DeltaChecked k d (Err e) = (DeltaRange k d → ⊥) × (e ≡ plain OutOfRange)

-- the delta of some series
pub record AnyDelta (d : ℤ) : Type 0 where
  pub least : negsuc 9999 ≤ℤ d
  pub most : d ≤ℤ pos 10000
