-- The strikes of a stretch as a list, and how it grows by a run of equal steps.
use Rattle.std.proofs.Common.{◌≡◌, ℕ, zero, suc, ◌+◌, ◌-◌, ◌*◌, ◌<◌, ◌≤◌, Bool, true, false, List, [], ◌∷◌, ◌++◌, length, filter, refl, ap, ◌∙◌, subst, ⊎_elim, add-zero, suc-mul, suc-add, zero-add, zero-mul, arith}
use Rattle.std.specs.List.{range_with_len}
use Rattle.std.proofs.lemmas.List.Elements.{filter-append}
use Rattle.std.proofs.lemmas.List.Elements.{All-get_or, All-filter, All-from_get_or, filter_passes}
use Rattle.std.proofs.lemmas.List.Kept.{AllPairs-filter}
use Rattle.std.proofs.lemmas.List.FromFn.{map-range_with_len_more, get_or-range_with_len, length-range_with_len}
use Rattle.std.proofs.lemmas.Bool.Decides.{nat_tests}
use Rattle.std.proofs.lemmas.Grind.{common_steps}
use Rattle.std.proofs.lemmas.Bool.{cond-true, cases_Bool}
use Rattle.terms.specs.declared.steps.StepBand.{StepBand}
use Rattle.terms.specs.Steps.{step_in, Listed}
use Rattle.terms.proofs.Grid as grid
use Rattle.strikelists.specs.declared.span.Span.{Span}
use Rattle.strikelists.specs.Strikes.{Between}
use Rattle.strikelists.specs.Grids.{Grid}
use Rattle.strikelists.specs.Runs.{listed, stretch, strikes_of, behind, above, rungs}

listed_true : (bands : List StepBand) (k : ℕ) → Listed bands k → listed bands k ≡ true
listed_true bands k l = let some = l.some in let whole = l.whole in grind (arith, nat_tests)

true_listed : (bands : List StepBand) (k : ℕ) → listed bands k ≡ true → Listed bands k
true_listed bands k t = record { some = grind (arith, nat_tests, t); whole = grind (arith, nat_tests, t) }

not_listed : (bands : List StepBand) (k : ℕ) → (Listed bands k → ⊥) → listed bands k ≡ false
not_listed bands k none = ⊎_elim (λ t. absurd (none (true_listed bands k t))) (λ f. f) (cases_Bool (listed bands k))

counting_split : (a m n : ℕ) → range_with_len a (m + n) ≡ range_with_len a m ++ range_with_len (a + m) n
counting_split a zero n = rw (zero-add n, add-zero a) refl
counting_split a (suc m) n =
    let f : a + suc m ≡ (a + 1) + m = omega arith in
    rw (suc-add m n, f) (ap (λ xs. a ∷ xs) (counting_split (a + 1) m n))

-- a filter of ascending numbers falls apart at a number that passes
parted : (p : ℕ → Bool) (a m n k : ℕ) → a + m ≡ k → p k ≡ true
    → filter p (range_with_len a (m + suc n)) ≡ filter p (range_with_len a m) ++ k ∷ filter p (range_with_len (k + 1) n)
parted p a m n k e t = grind (arith, common_steps, counting_split a m (suc n), filter-append p (range_with_len a m) (range_with_len (a + m) (suc n)))

-- the stretch holds every strike from low to high and nothing else, ascending
pub stretch_words : (bands : List StepBand) (low high : ℕ) → low ≤ high → Between bands low high (stretch bands low high)
stretch_words bands low high le =
    let n = suc high - low in
    let all = range_with_len low n in
    record {
      ascends = λ i j lt l. AllPairs-filter (λ x y. x < y) (listed bands) all
          (λ i j d lt l. omega (arith, get_or-range_with_len low n i d, get_or-range_with_len low n j d, length-range_with_len low n)) i j 0 lt l;
      only = λ k h.
          let passes = All-get_or (λ x. listed bands x ≡ true) (stretch bands low high) h.0 0 h.1 (filter_passes (listed bands) all) in
          let within = All-get_or (λ x. (low ≤ x) × (x ≤ high)) (stretch bands low high) h.0 0 h.1 (All-filter (listed bands) (λ x. (low ≤ x) × (x ≤ high)) all
          (All-from_get_or (λ x. (low ≤ x) × (x ≤ high)) all 0 (λ i l. grind (arith, get_or-range_with_len low n i 0, length-range_with_len low n)))) in
          (true_listed bands k (subst (λ (x : ℕ). listed bands x ≡ true) h.2 passes), omega arith, omega arith);
      every = λ k l lo hi.
          let front = filter (listed bands) (range_with_len low (k - low)) in
          let e : n ≡ (k - low) + suc (high - k) = omega arith in
          let apart = parted (listed bands) low (k - low) (high - k) k (omega arith) (listed_true bands k l) in
          let at : stretch bands low high ≡ front ++ k ∷ filter (listed bands) (range_with_len (k + 1) (high - k)) = rw e apart in
          (length front, rw at (grind (arith, common_steps)), rw at (grind (arith, common_steps)));
    }

-- a run in which only the last number passes
kept_last : (p : ℕ → Bool) (n a : ℕ) → ((x : ℕ) → a ≤ x → x < a + n → p x ≡ false) → p (a + n) ≡ true
    → filter p (range_with_len a (suc n)) ≡ (a + n) ∷ []
kept_last p zero a none y = grind (arith, common_steps)
kept_last p (suc n) a none y = grind (arith, common_steps, none a, kept_last p n (a + 1))

pub one : (bands : List StepBand) (k : ℕ) → Listed bands k → stretch bands k k ≡ k ∷ []
one bands k l =
    let e : suc k - k ≡ 1 = omega arith in
    ap (λ n. filter (listed bands) (range_with_len k n)) e ∙ cond-true (listed bands k) (k ∷ []) [] (listed_true bands k l)

-- the strikes of a span are its lower strike and those above it
pub lowest : (span : Span) → strikes_of span ≡ span.low ∷ above span
lowest span =
    let e : suc span.high - span.low ≡ suc (span.high - span.low) = omega (arith, span.ends.order) in
    let bands = span.grid.steps.bands in
    rw e (cond-true (listed bands span.low) (span.low ∷ above span) (above span) (listed_true bands span.low span.ends.from))

-- what lies behind a strike, up to a point and from there on
pub split : (bands : List StepBand) (low k high : ℕ) → low ≤ k → k ≤ high → behind bands low high ≡ behind bands low k ++ behind bands k high
split bands low k high lo hi =
    let e : high - low ≡ (k - low) + (high - k) = omega arith in
    let a : (low + 1) + (k - low) ≡ k + 1 = omega arith in
    rw (e, counting_split (low + 1) (k - low) (high - k), a) (filter-append (listed bands) (range_with_len (low + 1) (k - low)) (range_with_len (k + 1) (high - k)))

-- the next strike is the only one of the step up to it
alone : (bands : List StepBand) (k s : ℕ) → 0 < s → Listed bands (k + s) → ((m : ℕ) → Listed bands m → k < m → k + s ≤ m) → behind bands k (k + s) ≡ (k + s) ∷ []
alone bands k zero p on none = absurd (omega arith)
alone bands k (suc s) p on none =
    let e : (k + suc s) - k ≡ suc s = omega arith in
    let at : (k + 1) + s ≡ k + suc s = omega arith in
    rw e (rw (← at) (kept_last (listed bands) s (k + 1) (λ x lo hi. not_listed bands x (λ l. omega (arith, none x l (omega arith)))) (rw at (listed_true bands (k + suc s) on))))

-- n steps up from a strike, over which one step holds
pub climb : (bands : List StepBand) (n k s : ℕ) → Grid bands → Listed bands k → ((x : ℕ) → k ≤ x → x < k + n * s → step_in bands x ≡ s) → 0 < s
    → Listed bands (k + n * s) × (behind bands k (k + n * s) ≡ rungs k s n)
climb bands zero k s g l even p =
    let e : k + zero * s ≡ k = omega (arith, zero-mul s) in
    let z : k - k ≡ 0 = omega arith in
    (rw e l, rw (e, z) refl)
climb bands (suc n) k s g l even p =
    let m = suc-mul n s in
    let at = k + n * s in
    let e : k + suc n * s ≡ at + s = omega (arith, m) in
    let law = grid.unbroken bands g.join in
    let up = climb bands n k s g l (λ x lo hi. even x lo (omega (arith, m))) p in
    let holds : step_in bands at ≡ s = even at (omega arith) (omega (arith, m)) in
    let on : Listed bands (at + s) = rw holds at (law.next at up.0) in
    let one = alone bands at s p on (λ x lx lt. omega (arith, law.none_between at x up.0 lx lt, holds)) in
    let more = map-range_with_len_more (λ i. k + suc i * s) 0 n n (omega arith) in
    (rw e on, grind (arith, e, one, up.1, more, split bands k at (at + s)))
