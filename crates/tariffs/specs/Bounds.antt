-- No fee is above 100,000 cents a contract.
use Rattle.std.specs.Prelude.{◌≡◌, ℕ, ◌-◌, ◌*◌, ◌≤◌, Bool, true, false, cond, Some, None, Option, refl}
use Rattle.std.proofs.Common.{mul-le-mul_left, arith}
use Rattle.tariffs.specs.declared.rate.Rate.{Rate}
use Rattle.tariffs.specs.declared.side.Event.{Event}
use Rattle.tariffs.specs.declared.side.Event.TheVariants.{Trade, Exercise}
use Rattle.tariffs.specs.Sides.{by_event}
use Rattle.tariffs.specs.Allowed.{plus}
use Rattle.tariffs.specs.Rates.{fee, fee_by}

pub fee_le : (n : ℕ) (rate : Rate) → fee n rate ≤ n * 100000
fee_le n rate = mul-le-mul_left n rate.most

pub fee_by_le : (n : ℕ) (o : Option Rate) (x : ℕ) → fee_by n o ≡ Some x → x ≤ n * 100000
fee_by_le n None x e = grind arith
fee_by_le n (Some rate) x e = let h = fee_le n rate in grind arith

-- what is asked only of sides in range
pub within_le : (b : Bool) (o : Option ℕ) (x most : ℕ) → (o ≡ Some x → x ≤ most) → cond b o None ≡ Some x → x ≤ most
within_le true o x most low e = low e
within_le false o x most low e = grind arith

pub event_le : (v : Event) (o p : Option ℕ) (x most : ℕ) → (o ≡ Some x → x ≤ most) → (p ≡ Some x → x ≤ most) → by_event v o p ≡ Some x → x ≤ most
event_le Trade o p x most low high e = low e
event_le Exercise o p x most low high e = high e

plus_le : (part : ℕ) (o : Option ℕ) (x n k : ℕ) → k ≤ n → part ≤ k * 100000 → ((y : ℕ) → o ≡ Some y → y ≤ (n - k) * 100000)
    → plus part o ≡ Some x → x ≤ n * 100000
plus_le part None x n k h p low e = grind arith
plus_le part (Some y) x n k h p low e =
    let q = low y refl in
    grind arith

-- k contracts at one fee, and the others, if there are any, at another
pub parts_le : (none : Bool) (part : ℕ) (o : Option ℕ) (x n k : ℕ) → k ≤ n → part ≤ k * 100000 → ((y : ℕ) → o ≡ Some y → y ≤ (n - k) * 100000)
    → cond none (Some part) (plus part o) ≡ Some x → x ≤ n * 100000
parts_le true part o x n k h p low e = grind arith
parts_le false part o x n k h p low e = plus_le part o x n k h p low e
