-- What the numbers of a call stand for, which are in range, and under which keys rows stand.
use Rattle.std.specs.Prelude.{ℕ, zero, suc, ◌*◌, ◌/◌, ◌%◌, Bool, true, false, ◌&&◌, ℤ, pos, ◌==◌, int_le, nat_le, nat_lt}
use Rattle.terms.specs.declared.family.Family.{Family}
use Rattle.terms.specs.declared.family.Family.TheVariants.{HangSeng, ChinaEnterprises, MsciTaiwan}
use Rattle.terms.specs.declared.kinds.SeriesKind.{SeriesKind}
use Rattle.terms.specs.declared.kinds.SeriesKind.TheVariants.{Future, Call, Put, CallOnFuture, PutOnFuture}
use Rattle.terms.specs.declared.kinds.AccountKind.{AccountKind}
use Rattle.terms.specs.declared.kinds.AccountKind.TheVariants.{House, Maker, Client}
use Rattle.terms.specs.declared.kinds.Size.{Size}
use Rattle.terms.specs.declared.kinds.Size.TheVariants.{Full, Mini}
use Rattle.terms.specs.Families.{bands_of, tick_of}
use Rattle.terms.specs.Steps.{step_in}
use Rattle.series.specs.Listing.{offers, size_in, takes_strike, lowest_delta, highest_delta}
use Rattle.positions.specs.Keys.{series_key}
use Rattle.ledger.specs.Calls.{Series}

-- ---- what a number stands for; a number above the last is refused before it is used, and stands for the last
abbrev pub family_of : ℕ → Family
family_of zero = HangSeng
family_of (suc zero) = ChinaEnterprises
family_of (suc (suc n)) = MsciTaiwan

abbrev pub kind_of : ℕ → SeriesKind
kind_of zero = Future
kind_of (suc zero) = Call
kind_of (suc (suc zero)) = Put
kind_of (suc (suc (suc zero))) = CallOnFuture
kind_of (suc (suc (suc (suc n)))) = PutOnFuture

abbrev pub account_kind_of : ℕ → AccountKind
account_kind_of zero = House
account_kind_of (suc zero) = Maker
account_kind_of (suc (suc n)) = Client

abbrev pub size_of : ℕ → Size
size_of zero = Full
size_of (suc n) = Mini

abbrev pub series_kind : Series → SeriesKind
series_kind x = kind_of x.kind

-- ---- kinds of series
abbrev pub is_future : SeriesKind → Bool
is_future Future = true
is_future Call = false
is_future Put = false
is_future CallOnFuture = false
is_future PutOnFuture = false

-- an option that is exercised into futures
abbrev pub on_future : SeriesKind → Bool
on_future Future = false
on_future Call = false
on_future Put = false
on_future CallOnFuture = true
on_future PutOnFuture = true

-- ---- ranges
abbrev pub is_family : ℕ → Bool
is_family f = nat_lt f 3

-- a register has space for 1 to 4,096 rows
abbrev pub space_in : ℕ → Bool
space_in n = nat_le 1 n && nat_le n 4096

abbrev pub account_in : ℕ → Bool
account_in a = nat_le a 65534

abbrev pub month_in : ℕ → Bool
month_in m = nat_le 24000 m && nat_le m 25199

abbrev pub price_in : ℕ → Bool
price_in p = nat_le 1 p && nat_le p 10000000

-- contracts of one trade, or fulls of one close
abbrev pub deal_in : ℕ → Bool
deal_in n = nat_le 1 n && nat_le n 100000

abbrev pub delta_range : SeriesKind → ℤ → Bool
delta_range k d = int_le (lowest_delta k) d && int_le d (highest_delta k)

-- the first mark of a future is a price, the first delta of an option a delta of its kind
abbrev pub first_in : SeriesKind → ℤ → Bool
first_in Future v = int_le (pos 1) v && int_le v (pos 10000000)
first_in Call v = delta_range Call v
first_in Put v = delta_range Put v
first_in CallOnFuture v = delta_range CallOnFuture v
first_in PutOnFuture v = delta_range PutOnFuture v

-- the numbers of a series are in range for the family
abbrev pub series_in : Family → Series → Bool
series_in f x = nat_lt x.kind 5 && (offers f (series_kind x) && (month_in x.month && takes_strike (series_kind x) x.strike))

-- the strike is a multiple of the step that holds at it
abbrev pub is_on_step : Family → Series → Bool
is_on_step f x = x.strike % step_in (bands_of f) x.strike == 0

abbrev pub on_tick : Family → ℕ → Bool
on_tick f price = price % tick_of f == 0

abbrev pub size_offered : Family → Series → ℕ → Bool
size_offered f x z = nat_lt z 2 && size_in f (series_kind x) (size_of z)

-- ---- keys
abbrev pub key_of : Series → ℕ
key_of x = series_key x.kind x.month x.strike

-- of the series with this key: its kind's number, the key of its month's future
abbrev pub kind_of_key : ℕ → ℕ
kind_of_key s = (s / 131072) % 5

abbrev pub future_of_key : ℕ → ℕ
future_of_key s = (s / 655360) * 655360

-- past the key of every series
abbrev pub all_series : ℕ
all_series = 786432000
