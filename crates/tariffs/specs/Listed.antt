-- A listing: a rate, or none, for each kind of series, size, kind of account and event.
use Rattle.std.specs.Prelude.{◌≡◌, ℕ, ◌+◌, ◌*◌, ◌<◌, cond, List, map, None, Ok, Err, Option, Result, slice_index_or, slice_set}
use Rattle.terms.specs.declared.refusal.Reason.TheVariants.{OutOfRange}
use Rattle.terms.specs.declared.refusal.Refusal.{Refusal}
use Rattle.terms.specs.Refusals.{plain}
use Rattle.terms.specs.Kinds.{kind_number, size_number, account_kind_number}
use Rattle.tariffs.specs.declared.side.Side.{Side}
use Rattle.tariffs.specs.declared.listing.Listing.{Listing}
use Rattle.tariffs.specs.Sides.{event_number, within}
use Rattle.tariffs.specs.Rates.{MayBeListed, fee_by, cents_of}

-- the place of a rate: 5 kinds of series, 2 sizes, 3 kinds of account, 2 events
abbrev pub place_number : ℕ → ℕ → ℕ → ℕ → ℕ
place_number series size account event = ((series * 2 + size) * 3 + account) * 2 + event

-- no two kinds of sides have one place
abbrev pub Apart : Type 0
Apart =
    (a b c d a' b' c' d' : ℕ) → b < 2 → c < 3 → d < 2 → b' < 2 → c' < 3 → d' < 2
    → place_number a b c d ≡ place_number a' b' c' d' → (a ≡ a') × (b ≡ b') × (c ≡ c') × (d ≡ d')

abbrev pub place_of : Side → ℕ
place_of s = place_number (kind_number s.series_kind) (size_number s.size) (account_kind_number s.account_kind) (event_number s.event)

-- count × rate, for a side in range that has one
abbrev pub listed_price : Listing → Side → Option ℕ
listed_price t s = cond (within s) (fee_by s.count (slice_index_or t.rates (place_of s) None)) None

-- all rates, in cents
abbrev pub listed : Listing → List (Option ℕ)
listed t = map cents_of t.rates

-- what may be listed
pub record ListRange (series size account event : ℕ) (rate : Option ℕ) : Type 0 where
  pub of_series : series < 5
  pub of_size : size < 2
  pub of_account : account < 3
  pub of_event : event < 2
  pub of_rate : MayBeListed rate

-- Puts the rate into its place; 4 where something is out of range, and nothing changes.
abbrev pub Lists : Listing → ℕ → ℕ → ℕ → ℕ → Option ℕ → Listing → Result (Unit {0}) Refusal → Type 0
Lists old series size account event rate new (Ok _) =
    ListRange series size account event rate × (listed new ≡ slice_set (listed old) (place_number series size account event) rate)
Lists old series size account event rate new (Err e) =
    (ListRange series size account event rate → ⊥) × (e ≡ plain OutOfRange) × (new ≡ old)
