-- The fees of sides, all in one standing.
use Rattle.std.specs.Prelude.{ℕ, ◌+◌, ◌*◌, ◌≤◌, cond, List, [], ◌∷◌, ◌++◌, length, drop, sum_by, sum, IfOk, OnOk, Some, None, Ok, Err, Option, Result, nat_lt}
use Rattle.terms.specs.declared.refusal.Reason.TheVariants.{NoSpace, NoRate}
use Rattle.terms.specs.declared.refusal.Refusal.{Refusal}
use Rattle.terms.specs.Refusals.{plain, about}
use Rattle.tariffs.specs.declared.side.Side.{Side}

-- the fee, or 13 with the account where there is no rate
abbrev pub rated : Option ℕ → ℕ → Result ℕ Refusal
rated None account = Err (about NoRate account)
rated (Some fee) account = Ok fee

-- what follows a refusal does not matter
abbrev pub pair : Result ℕ Refusal → Result ℕ Refusal → Result (ℕ × ℕ) Refusal
pair (Err e) second = Err e
pair (Ok x) (Err e) = Err e
pair (Ok x) (Ok y) = Ok (x, y)

-- both fees, or the first of the two accounts that has no rate
abbrev pub rated_both : (Side → Option ℕ) → Side → Side → Result (ℕ × ℕ) Refusal
rated_both price buyer seller = pair (rated (price buyer) buyer.account) (rated (price seller) seller.account)

-- both fees together are at most 100,000 cents a contract
abbrev pub BothBounded : Side → Side → Result (ℕ × ℕ) Refusal → Type 0
BothBounded buyer seller r = IfOk r (λ fees. fees.0 + fees.1 ≤ (buyer.count + seller.count) * 100000)

-- the standing moves only where there is no refusal
abbrev pub on_ok : {S R : Type 0} → Result R Refusal → S → S → S
on_ok (Ok _) moved before = moved
on_ok (Err _) moved before = before

abbrev pub first : Option ℕ → List ℕ → List ℕ
first None later = []
first (Some fee) later = fee ∷ later

-- the fees of a list of sides, up to the first without a rate
abbrev pub fees_of : (Side → Option ℕ) → List Side → List ℕ
fees_of price [] = []
fees_of price (s ∷ ss) = first (price s) (fees_of price ss)

-- all fees together are at most 100,000 cents a contract
abbrev pub AllBounded : (Side → Option ℕ) → List Side → Result (Unit {0}) Refusal → Type 0
AllBounded price sides r = OnOk r (sum (fees_of price sides) ≤ sum_by (λ s. s.count) sides * 100000)

abbrev pub unless : Result ℕ Refusal → Result (Unit {0}) Refusal → Result (Unit {0}) Refusal
unless (Err e) later = Err e
unless (Ok _) later = later

-- 13 with the account of the first side without a rate
abbrev pub rated_all : (Side → Option ℕ) → List Side → Result (Unit {0}) Refusal
rated_all price [] = Ok tt
rated_all price (s ∷ ss) = unless (rated (price s) s.account) (rated_all price ss)

-- 12 where there is less space than sides
abbrev pub answer : (Side → Option ℕ) → List Side → List ℕ → Result (Unit {0}) Refusal
answer price sides space = cond (nat_lt (length space) (length sides)) (Err (plain NoSpace)) (rated_all price sides)

-- fees in the front of a space, which stays as it was behind them
abbrev pub in_front : List ℕ → List ℕ → List ℕ
in_front fees space = fees ++ drop (length fees) space

-- the fees in front; nothing where there is too little space
abbrev pub written : (Side → Option ℕ) → List Side → List ℕ → List ℕ
written price sides space = cond (nat_lt (length space) (length sides)) space (in_front (fees_of price sides) space)
