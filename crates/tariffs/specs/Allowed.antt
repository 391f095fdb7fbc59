-- A reduced rate for the first contracts of a trade, over a lower tariff for the others.
use Rattle.std.specs.Prelude.{◌≡◌, ℕ, ◌+◌, ◌-◌, ◌*◌, ◌≤◌, min, cond, Some, None, Option, ◌==◌, ◌≢◌}
use Rattle.tariffs.specs.declared.side.Side.{Side}
use Rattle.tariffs.specs.declared.entries.Entries.{Entries}
use Rattle.tariffs.specs.declared.allowance.Allowance.{Allowance}
use Rattle.tariffs.specs.Sides.{within, counting, by_event}
use Rattle.tariffs.specs.Entries.{left, spent}

-- k, the least of the contracts traded and of what the account has left
abbrev pub covered : Entries → Side → ℕ
covered t s = min s.count (left t s.account)

abbrev pub plus : ℕ → Option ℕ → Option ℕ
plus fee None = None
plus fee (Some more) = Some (fee + more)

-- k contracts at the reduced rate, and the rest, if it is not 0, as the lower tariff prices it
abbrev pub trade_fee : (Side → Option ℕ) → ℕ → ℕ → Side → Option ℕ
trade_fee lower reduced k s =
    cond (s.count - k == 0) (Some (k * reduced)) (plus (k * reduced) (lower (counting s (s.count - k))))

-- an exercise costs what the lower tariff says
abbrev pub allowed_price : {L : Type 0} → (Side → Option ℕ) → Allowance L → Side → Option ℕ
allowed_price lower t s = cond (within s) (by_event s.event (trade_fee lower t.reduced.cents (covered t.entries s) s) (lower s)) None

-- the rest of a trade, which the allowance does not cover
abbrev pub rest_of : Entries → Side → ℕ
rest_of t s = s.count - covered t s

-- the lower tariff is charged the rest, if it is not 0
abbrev pub lower_traded : {L : Type 0} → (Side → L) → Allowance L → Side → L
lower_traded charged t s = cond (rest_of t.entries s == 0) t.lower (charged (counting s (rest_of t.entries s)))

-- after a trade: the account's entry is k lower
abbrev pub traded : {L : Type 0} → (Side → L) → Allowance L → Side → Allowance L
traded charged t s = record { reduced = t.reduced; entries = spent t.entries s.account s.count; lower = lower_traded charged t s }

-- after an exercise: the lower tariff is charged all
abbrev pub exercised : {L : Type 0} → (Side → L) → Allowance L → Side → Allowance L
exercised charged t s = record { reduced = t.reduced; entries = t.entries; lower = charged s }

abbrev pub allowed_after : {L : Type 0} → (Side → L) → Allowance L → Side → Allowance L
allowed_after charged t s = cond (within s) (by_event s.event (traded charged t s) (exercised charged t s)) t

-- A charge takes from one account's entry, if at all.
pub record TakesFromOne (old : Entries) (account : ℕ) (new : Entries) : Type 0 where
  pub no_other : (b : ℕ) → (account ≢ b) → left new b ≡ left old b
  pub never_rises : (b : ℕ) → left new b ≤ left old b
