-- Rates, in cents a contract.
use Rattle.std.specs.Prelude.{ℕ, ◌*◌, ◌≤◌, Some, None, Option}
use Rattle.tariffs.specs.declared.rate.Rate.{Rate}

abbrev pub RateRange : ℕ → Type 0
RateRange cents = cents ≤ 100000

-- what so many contracts cost
abbrev pub fee : ℕ → Rate → ℕ
fee count rate = count * rate.cents

-- no fee where there is no rate
abbrev pub fee_by : ℕ → Option Rate → Option ℕ
fee_by count None = None
fee_by count (Some rate) = Some (fee count rate)

abbrev pub cents_of : Option Rate → Option ℕ
cents_of None = None
cents_of (Some rate) = Some rate.cents

-- no rate, or one in range
abbrev pub MayBeListed : Option ℕ → Type 0
MayBeListed None = Unit {0}
MayBeListed (Some cents) = RateRange cents
