-- What an office sets and reads of an allowance.
use Rattle.std.specs.Prelude.{◌≡◌, ℕ, cond, Ok, Err, Result, nat_le}
use Rattle.terms.specs.declared.refusal.Reason.TheVariants.{OutOfRange}
use Rattle.terms.specs.declared.refusal.Refusal.{Refusal}
use Rattle.terms.specs.Refusals.{plain}
use Rattle.tariffs.specs.declared.entries.Entries.{Entries}
use Rattle.tariffs.specs.declared.allowance.Allowance.{Allowance}
use Rattle.tariffs.specs.Rates.{RateRange}
use Rattle.tariffs.specs.Entries.{left, Settles}

-- the allowance n is t with this reduced rate
pub record Reduced {L : Type 0} (t : Allowance L) (cents : ℕ) (n : Allowance L) : Type 0 where
  pub range : RateRange cents
  pub rate : n.reduced.cents ≡ cents
  pub entries : n.entries ≡ t.entries
  pub lower : n.lower ≡ t.lower

-- 4 for a rate out of range, and nothing changes
abbrev pub Reduces : {L : Type 0} → Allowance L → ℕ → Allowance L → Result (Unit {0}) Refusal → Type 0
Reduces t cents n (Ok _) = Reduced t cents n
Reduces t cents n (Err e) = (RateRange cents → ⊥) × (e ≡ plain OutOfRange) × (n ≡ t)

-- what an account has left; 4 for what is no account's number
abbrev pub read_left : Entries → ℕ → Result ℕ Refusal
read_left t account = cond (nat_le account 65534) (Ok (left t account)) (Err (plain OutOfRange))

-- the table of entries is set, and nothing else changes
pub record SetsLeft {L : Type 0} (t : Allowance L) (account left : ℕ) (n : Allowance L) (r : Result (Unit {0}) Refusal) : Type 0 where
  pub entries : Settles t.entries account left n.entries r
  pub reduced : n.reduced ≡ t.reduced
  pub lower : n.lower ≡ t.lower
