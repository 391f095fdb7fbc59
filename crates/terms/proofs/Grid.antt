-- The law of strikes, for any list of bands that passes the computed test.
use Rattle.std.proofs.Common.{◌≡◌, ℕ, suc, ◌+◌, ◌-◌, ◌*◌, ◌/◌, ◌%◌, ◌<◌, ◌≤◌, true, cond, eqb, ltb, leb, List, [], ◌∷◌, fold, find, Option, Some, None, sym, refl, ap, ◌∙◌, ⊎_elim, mul-le-mul_right, mod-lt, suc-mul, lt_of_mul-lt-mul_right, div-add-mod', arith}
use native.Mathlib.Nat.{mul-mod_left, add-mod_right}
use Rattle.std.proofs.lemmas.Bool.{le-leb, lt-leb, lt-ltb, le-ltb, ltb-true, eqb-true, and_parts, cases_lt}
use Rattle.std.proofs.lemmas.Bool.Decides.{nat_tests}
use Rattle.terms.specs.declared.steps.StepBand.{StepBand}
use Rattle.terms.specs.Steps.{step_in, joins, joined, Unbroken}

-- two multiples of s lie at least s apart
gap : (s a b : ℕ) → a % s ≡ 0 → b % s ≡ 0 → a < b → a + s ≤ b
gap s a b ea eb lt =
    let da = div-add-mod' a s in
    let db = div-add-mod' b s in
    let l : (a / s) * s < (b / s) * s = omega (arith, da, db) in
    let q : a / s < b / s = lt_of_mul-lt-mul_right s l in
    let m : suc (a / s) * s ≤ (b / s) * s = mul-le-mul_right s q in
    omega (arith, da, db, m, suc-mul (a / s) s)

floor_mod : (s x : ℕ) → (x - x % s) % s ≡ 0
floor_mod s x =
    let e : x - x % s ≡ (x / s) * s = omega (arith, div-add-mod' x s) in
    ap (λ y. y % s) e ∙ mul-mod_left (x / s) s

-- the step at k, where s holds below the bands
abbrev after : ℕ → List StepBand → ℕ → ℕ
after s bands k = fold (λ s b. cond (leb b.from k) b.step s) s bands

-- Around k, from lo up to hi, one step holds; lo and hi are multiples of it, and hi of the step that holds at hi too.
pub record Piece (g : ℕ → ℕ) (a k : ℕ) : Type 0 where
  pub lo : ℕ
  pub hi : ℕ
  pub from : a ≤ lo
  pub low : lo ≤ k
  pub high : k < hi
  pub even : (x : ℕ) → lo ≤ x → x < hi → g x ≡ g k
  pub rises : 0 < g k
  pub lo_on : lo % g k ≡ 0
  pub hi_on : hi % g k ≡ 0
  pub next_on : hi % g hi ≡ 0

-- what the test says of the first of the bands
record Joint (a s : ℕ) (b : StepBand) (bs : List StepBand) : Type 0 where
  rises : 0 < s
  on : a % s ≡ 0
  up : a ≤ b.from
  meets : b.from % s ≡ 0
  rest : joins b.from b.step bs ≡ true

joint : (a s : ℕ) (b : StepBand) (bs : List StepBand) → joins a s (b ∷ bs) ≡ true → Joint a s b bs
joint a s b bs t = record {
  rises = grind (arith, nat_tests, t);
  on = grind (arith, nat_tests, t);
  up = grind (arith, nat_tests, t);
  meets = grind (arith, nat_tests, t);
  rest = grind (arith, nat_tests, t);
}

-- below the first band no band changes the step
below : (bs : List StepBand) (a s t k : ℕ) → joins a t bs ≡ true → k < a → after s bs k ≡ s
below [] a s t k j h = refl
below (b ∷ bs) a s t k j h =
    let i = joint a t b bs j in
    let lt : k < b.from = omega (arith, i.up) in
    let e = lt-leb b.from k lt in
    simp e (below bs b.from s b.step k i.rest lt)

-- from a band on, the step before it does not count
past : (b : StepBand) (bs : List StepBand) (s x : ℕ) → b.from ≤ x → after s (b ∷ bs) x ≡ after b.step bs x
past b bs s x h = let e = le-leb b.from x h in simp e

before : (b : StepBand) (bs : List StepBand) (a s x : ℕ) → Joint a s b bs → x < b.from → after s (b ∷ bs) x ≡ s
before b bs a s x j h = let e = lt-leb b.from x h in simp e (below bs b.from s b.step x j.rest h)

piece : (bs : List StepBand) (a s k : ℕ) → joins a s bs ≡ true → a ≤ k → Piece (after s bs) a k
piece [] a s k t h =
    let p = and_parts (ltb 0 s) (eqb (a % s) 0) t in
    let rises = ltb-true 0 s p.0 in
    record {
      lo = a;
      hi = suc (k / s) * s;
      from = omega arith;
      low = h;
      high = omega (arith, suc-mul (k / s) s, div-add-mod' k s, mod-lt k rises);
      even = λ x _ _. refl;
      rises = rises;
      lo_on = eqb-true (a % s) 0 p.1;
      hi_on = mul-mod_left (suc (k / s)) s;
      next_on = mul-mod_left (suc (k / s)) s;
    }
piece (b ∷ bs) a s k t h =
    let j = joint a s b bs t in
    ⊎_elim
    (λ lt.
    let n = piece bs b.from b.step b.from j.rest (omega arith) in
    let e : after s (b ∷ bs) k ≡ s = before b bs a s k j lt in
    let at : n.lo ≡ b.from = omega (arith, n.from, n.low) in
    let on : b.from % after b.step bs b.from ≡ 0 = rw at at n.lo_on in
    record {
      lo = a;
      hi = b.from;
      from = omega arith;
      low = h;
      high = lt;
      even = λ x _ hx. before b bs a s x j hx ∙ sym e;
      rises = rw e j.rises;
      lo_on = rw e j.on;
      hi_on = rw e j.meets;
      next_on = rw (past b bs s b.from (omega arith)) on;
    })
    (λ le.
    let n = piece bs b.from b.step k j.rest le in
    let e : after s (b ∷ bs) k ≡ after b.step bs k = past b bs s k le in
    let up : b.from ≤ n.hi = omega (arith, n.high) in
    record {
      lo = n.lo;
      hi = n.hi;
      from = omega (arith, n.from, j.up);
      low = n.low;
      high = n.high;
      even = λ x lx hx. past b bs s x (omega (arith, n.from)) ∙ n.even x lx hx ∙ sym e;
      rises = rw e n.rises;
      lo_on = rw e n.lo_on;
      hi_on = rw e n.hi_on;
      next_on = rw (past b bs s n.hi up) n.next_on;
    })
    (cases_lt k b.from)

-- Up to the first band that begins above k one step holds, and that band begins at a multiple of this step and of its own.
abbrev pub Turn : (ℕ → ℕ) → ℕ → Option StepBand → Type 0
Turn g k None = (x : ℕ) → k ≤ x → g x ≡ g k
Turn g k (Some b) = (k < b.from) × (b.from % g k ≡ 0) × (b.from % g b.from ≡ 0) × ((x : ℕ) → k ≤ x → x < b.from → g x ≡ g k)

turn_past : (g h : ℕ → ℕ) (k : ℕ) (o : Option StepBand) → ((x : ℕ) → k ≤ x → h x ≡ g x) → Turn g k o → Turn h k o
turn_past g h k None e t = λ x lo. e x lo ∙ t x lo ∙ sym (e k (omega arith))
turn_past g h k (Some b) e t =
    let here = e k (omega arith) in
    let there = e b.from (omega (arith, t.0)) in
    (t.0, rw here t.1, rw there t.2, λ x lo hi. e x lo ∙ t.3 x lo hi ∙ sym here)

turn : (bs : List StepBand) (a s k : ℕ) → joins a s bs ≡ true → a ≤ k → Turn (after s bs) k (find (λ b. ltb k b.from) bs)
turn [] a s k t h = λ x lo. refl
turn (b ∷ bs) a s k t h =
    let j = joint a s b bs t in
    ⊎_elim
    (λ lt.
    let e : after s (b ∷ bs) k ≡ s = before b bs a s k j lt in
    let n = piece bs b.from b.step b.from j.rest (omega arith) in
    let at : n.lo ≡ b.from = omega (arith, n.from, n.low) in
    let on : b.from % after b.step bs b.from ≡ 0 = rw at at n.lo_on in
    let own : b.from % after s (b ∷ bs) b.from ≡ 0 = rw (past b bs s b.from (omega arith)) on in
    let found = lt-ltb k b.from lt in
    simp found (lt, rw e j.meets, own, λ x lo hi. before b bs a s x j hi ∙ sym e))
    (λ le.
    let not_yet = le-ltb k b.from le in
    simp not_yet (turn_past (after b.step bs) (after s (b ∷ bs)) k (find (λ b. ltb k b.from) bs) (λ x lo. past b bs s x (omega arith)) (turn bs b.from b.step k j.rest le)))
    (cases_lt k b.from)

pub pieces : (bands : List StepBand) → joined bands ≡ true → (k : ℕ) → Piece (step_in bands) 0 k
pieces bands t k = piece bands 0 1 k t (omega arith)

module _ (bands : List StepBand) (t : joined bands ≡ true) where
  -- a multiple of the step that holds at it, 0 among them
  abbrev pub On : ℕ → Type 0
  On k = k % step_in bands k ≡ 0

  pub rises : (k : ℕ) → 0 < step_in bands k
  rises k = (pieces bands t k).rises

  floor_step : (x : ℕ) → step_in bands (x - x % step_in bands x) ≡ step_in bands x
  floor_step x =
      let s = step_in bands x in
      let p = pieces bands t x in
      let m = mod-lt x p.rises in
      let lo : p.lo ≤ x - x % s =
      ⊎_elim
      (λ lt. let k = gap s (x - x % s) p.lo (floor_mod s x) p.lo_on lt in omega (arith, p.low))
      (λ le. le)
      (cases_lt (x - x % s) p.lo) in
      p.even (x - x % s) lo (omega (arith, p.high))

  -- the multiple at or below x
  pub floor_on : (x : ℕ) → On (x - x % step_in bands x)
  floor_on x = rw (floor_step x) (floor_mod (step_in bands x) x)

  pub next_on : (k : ℕ) → On k → On (k + step_in bands k)
  next_on k on =
      let s = step_in bands k in
      let p = pieces bands t k in
      let e = gap s k p.hi on p.hi_on p.high in
      ⊎_elim
      (λ lt.
      let same : step_in bands (k + s) ≡ s = p.even (k + s) (omega (arith, p.low)) lt in
      rw same (add-mod_right k s ∙ on))
      (λ le. let same : p.hi ≡ k + s = omega arith in rw same at p.next_on)
      (cases_lt (k + s) p.hi)

  pub next_least : (k m : ℕ) → On k → On m → k < m → k + step_in bands k ≤ m
  next_least k m on onm lt =
      let s = step_in bands k in
      let p = pieces bands t k in
      let e = gap s k p.hi on p.hi_on p.high in
      ⊎_elim
      (λ l.
      let same : step_in bands m ≡ s = p.even m (omega (arith, p.low)) l in
      gap s k m on (rw same at onm) lt)
      (λ le. omega arith)
      (cases_lt m p.hi)

  -- the greatest multiple at or below x
  pub floor_most : (x m : ℕ) → On m → m ≤ x → m ≤ x - x % step_in bands x
  floor_most x m onm le =
      ⊎_elim
      (λ lt.
      let k = next_least (x - x % step_in bands x) m (floor_on x) onm lt in
      omega (arith, floor_step x, mod-lt x (rises x)))
      (λ l. l)
      (cases_lt (x - x % step_in bands x) m)

  -- the least multiple above the one at or below x
  pub ceil_on : (x : ℕ) → On ((x - x % step_in bands x) + step_in bands x)
  ceil_on x = let on = next_on (x - x % step_in bands x) (floor_on x) in rw (floor_step x) at on

  pub ceil_least : (x m : ℕ) → On m → x - x % step_in bands x < m → (x - x % step_in bands x) + step_in bands x ≤ m
  ceil_least x m onm lt = omega (arith, floor_step x, next_least (x - x % step_in bands x) m (floor_on x) onm lt)

pub turns : (bands : List StepBand) → joined bands ≡ true → (k : ℕ) → Turn (step_in bands) k (find (λ b. ltb k b.from) bands)
turns bands t k = turn bands 0 1 k t (omega arith)

pub unbroken : (bands : List StepBand) → joined bands ≡ true → Unbroken bands
unbroken bands t = record {
  rises = rises bands t;
  next = λ k l. record { some = omega (arith, l.some); whole = next_on bands t k l.whole };
  none_between = λ k m lk lm lt. next_least bands t k m lk.whole lm.whole lt;
}
