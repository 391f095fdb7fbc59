-- The sides that a tariff may price.
use Rattle.std.specs.Prelude.{ℕ, Bool, ◌&&◌, nat_le}
use Rattle.tariffs.specs.declared.side.Event.{Event}
use Rattle.tariffs.specs.declared.side.Event.TheVariants.{Trade, Exercise}
use Rattle.tariffs.specs.declared.side.Side.{Side}

abbrev pub event_number : Event → ℕ
event_number Trade = 0
event_number Exercise = 1

-- accounts 0 to 65,534, and 1 to 1,000,000 contracts
abbrev pub within : Side → Bool
within s = nat_le s.account 65534 && (nat_le 1 s.count && nat_le s.count 1000000)

-- the same side with so many contracts
abbrev pub counting : Side → ℕ → Side
counting s n = record {
  account = s.account;
  account_kind = s.account_kind;
  series_kind = s.series_kind;
  size = s.size;
  event = s.event;
  count = n;
}

-- one for a trade, the other for an exercise
abbrev pub by_event : {X : Type 0} → Event → X → X → X
by_event Trade trade exercise = trade
by_event Exercise trade exercise = exercise
