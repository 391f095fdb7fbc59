-- What the fees of a list of sides come to, one side after the other.
use Rattle.std.proofs.Common.{◌≡◌, ℕ, ◌+◌, ◌*◌, ◌≤◌, List, [], ◌∷◌, Some, None, Ok, Err, fold, sum_by, sum, Option, Result, refl, ap, ◌∙◌, arith}
use Rattle.std.proofs.lemmas.List.Sums.{sum_by-cons}
use Rattle.terms.specs.declared.refusal.Refusal.{Refusal}
use Rattle.tariffs.specs.declared.side.Side.{Side}
use Rattle.charges.specs.Fees.{first, fees_of, AllBounded}

first_le : (o : Option ℕ) (later : List ℕ) (n m : ℕ) → ((x : ℕ) → o ≡ Some x → x ≤ n * 100000) → sum later ≤ m * 100000 → sum (first o later) ≤ (n + m) * 100000
first_le None later n m low h = omega arith
first_le (Some x) later n m low h = omega (arith, low x refl, sum_by-cons (λ x. x) x later)

-- the fees of all sides together are bounded
fees_of_le : (price : Side → Option ℕ) → ((s : Side) (x : ℕ) → price s ≡ Some x → x ≤ s.count * 100000) → (ss : List Side)
    → sum (fees_of price ss) ≤ sum_by (λ s. s.count) ss * 100000
fees_of_le price low [] = omega arith
fees_of_le price low (s ∷ ss) =
    let count : Side → ℕ = λ s. s.count in
    omega (arith, first_le (price s) (fees_of price ss) s.count (sum_by count ss) (low s) (fees_of_le price low ss), sum_by-cons count s ss)

pub all_bounded : (price : Side → Option ℕ) → ((s : Side) (x : ℕ) → price s ≡ Some x → x ≤ s.count * 100000) → (ss : List Side) (r : Result (Unit {0}) Refusal)
    → AllBounded price ss r
all_bounded price low ss (Ok _) = fees_of_le price low ss
all_bounded price low ss (Err e) = tt

-- what no charge moves, many do not
pub never_moves : {S : Type 0} (after : S → Side → S) (t : S) → ((s : Side) → after t s ≡ t) → (ss : List Side) → fold after t ss ≡ t
never_moves after t same [] = refl
never_moves after t same (s ∷ ss) = ap (λ u. fold after u ss) (same s) ∙ never_moves after t same ss
