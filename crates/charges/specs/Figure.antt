-- The side and the allowance of the worked figure.
use Rattle.std.specs.Prelude.{◌≡◌, Some, None, Ok, Err, Result, slice_index_or}
use Rattle.terms.specs.declared.refusal.Refusal.{Refusal}
use Rattle.tariffs.specs.declared.listing.Listing.{Listing}
use Rattle.tariffs.specs.declared.allowance.Allowance.{Allowance}
use Rattle.tariffs.specs.Listed.{listed, place_of}
use Rattle.tariffs.specs.Entries.{left}
use Rattle.terms.specs.declared.kinds.AccountKind.TheVariants.{Maker}
use Rattle.terms.specs.declared.kinds.SeriesKind.TheVariants.{Future}
use Rattle.terms.specs.declared.kinds.Size.TheVariants.{Full}
use Rattle.tariffs.specs.declared.side.Event.TheVariants.{Trade}
use Rattle.tariffs.specs.declared.side.Side.{Side}

-- a maker's trade of 5 futures
abbrev pub five : Side
five = record { account = 7; account_kind = Maker; series_kind = Future; size = Full; event = Trade; count = 5 }

pub record Priced (a : Allowance Listing) : Type 0 where
  pub three : left a.entries five.account ≡ 3
  pub reduced : a.reduced.cents ≡ 200
  pub below : slice_index_or (listed a.lower) (place_of five) None ≡ Some 1000

-- 3 contracts left at 200 cents, over a rate of 1,000
abbrev pub ThreeLeft : Result (Allowance Listing) Refusal → Type 0
ThreeLeft (Ok a) = Priced a
ThreeLeft (Err e) = ⊥
