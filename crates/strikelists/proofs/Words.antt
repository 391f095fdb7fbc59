-- The words leave no choice.
use Rattle.std.proofs.Common.{◌≡◌, ℕ, zero, suc, ◌<◌, ◌≤◌, ◌⊎◌, List, [], ◌∷◌, length, get_or, refl, inl, inr, ⊎_elim, arith}
use Rattle.terms.specs.declared.steps.StepBand.{StepBand}
use Rattle.terms.specs.Steps.{Listed}
use Rattle.strikelists.specs.Strikes.{Nearest, LowEnd, HighEnd, Holds, Between, StrikeList}
use Rattle.strikelists.specs.Lists.{OneNearest, OneList}
use Rattle.strikelists.specs.Runs.{stretch}
use Rattle.strikelists.proofs.Stretches.{stretch_words}

pub one_nearest : OneNearest
one_nearest bands level a b n m = grind (arith, n.closest b m.listed, m.closest a n.listed)

one_low : (bands : List StepBand) (a l m : ℕ) → LowEnd bands a l → LowEnd bands a m → l ≡ m
one_low bands a l m p q = grind arith

one_high : (bands : List StepBand) (a l m : ℕ) → HighEnd bands a l → HighEnd bands a m → l ≡ m
one_high bands a l m p q = grind arith

abbrev Ascends : List ℕ → Type 0
Ascends xs = (i j : ℕ) → i < j → j < length xs → get_or xs i 0 < get_or xs j 0

ascends_rest : (x : ℕ) (xs : List ℕ) → Ascends (x ∷ xs) → Ascends xs
ascends_rest x xs a i j lt l = a (suc i) (suc j) (omega arith) (omega arith)

-- an element behind the first is greater
above_first : (x : ℕ) (xs : List ℕ) → Ascends (x ∷ xs) → (k : ℕ) → Holds xs k → x < k
above_first x xs a k h = let lt = a 0 (suc h.0) (omega arith) (omega (arith, h.1)) in omega (arith, h.2)

holds_rest : (x : ℕ) (xs : List ℕ) (k : ℕ) → Holds xs k → Holds (x ∷ xs) k
holds_rest x xs k h = (suc h.0, omega (arith, h.1), h.2)

first_or_rest : (x k : ℕ) (xs : List ℕ) → Holds (x ∷ xs) k → (x ≡ k) ⊎ Holds xs k
first_or_rest x k xs (zero, l, e) = inl e
first_or_rest x k xs (suc i, l, e) = inr (i, omega arith, e)

-- two ascending lists of the same elements are one
pub same_ascending : (xs ys : List ℕ) → Ascends xs → Ascends ys
    → ((k : ℕ) → Holds xs k → Holds ys k) → ((k : ℕ) → Holds ys k → Holds xs k) → xs ≡ ys
same_ascending [] [] a b to from = refl
same_ascending [] (y ∷ ys) a b to from = let h = from y (0, omega arith, refl) in absurd (omega (arith, h.1))
same_ascending (x ∷ xs) [] a b to from = let h = to x (0, omega arith, refl) in absurd (omega (arith, h.1))
same_ascending (x ∷ xs) (y ∷ ys) a b to from =
    let p = first_or_rest y x ys (to x (0, omega arith, refl)) in
    let q = first_or_rest x y xs (from y (0, omega arith, refl)) in
    let e : x ≡ y = grind (arith, p, q, above_first y ys b x, above_first x xs a y) in
    let rest = same_ascending xs ys (ascends_rest x xs a) (ascends_rest y ys b)
    (λ k h. grind (arith, first_or_rest y k ys (to k (holds_rest x xs k h)), above_first x xs a k h))
    (λ k h. grind (arith, first_or_rest x k xs (from k (holds_rest y ys k h)), above_first y ys b k h)) in
    cc

one_between : (bands : List StepBand) (low high : ℕ) (xs ys : List ℕ) → Between bands low high xs → Between bands low high ys → xs ≡ ys
one_between bands low high xs ys p q =
    same_ascending xs ys p.ascends q.ascends
    (λ k h. let o = p.only k h in q.every k o.0 o.1 o.2)
    (λ k h. let o = q.only k h in p.every k o.0 o.1 o.2)

pub one_list : OneList
one_list bands level xs ys p q =
    let a = one_nearest bands level p.middle q.middle p.nearest q.nearest in
    let l = one_low bands q.middle p.low q.low (rw a at p.low_end) q.low_end in
    let h = one_high bands q.middle p.high q.high (rw a at p.high_end) q.high_end in
    one_between bands q.low q.high xs ys (rw (l, h) at p.all) q.all

-- the ends stand in their order
pub ends_ordered : (bands : List StepBand) (a low high : ℕ) → Listed bands a → LowEnd bands a low → HighEnd bands a high → low ≤ high
ends_ordered bands a low high l p q =
    ⊎_elim
    (λ g. omega (arith, g.0.1, q.0.1))
    (λ g. omega (arith, g.1.1 a l, q.0.1))
    p

pub low_listed : (bands : List StepBand) (a low : ℕ) → LowEnd bands a low → Listed bands low
low_listed bands a low p = ⊎_elim (λ g. g.0.0) (λ g. g.1.0) p

-- the stretch between the ends is the list of the words
pub stretch_list : (bands : List StepBand) (level a low high : ℕ) → Nearest bands level a → LowEnd bands a low → HighEnd bands a high
    → StrikeList bands level (stretch bands low high)
stretch_list bands level a low high n p q = record {
  middle = a;
  low = low;
  high = high;
  nearest = n;
  low_end = p;
  high_end = q;
  all = stretch_words bands low high (grind (arith, n.listed));
}
