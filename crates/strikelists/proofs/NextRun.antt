-- The next run of a span.
use Rattle.std.proofs.Common.{◌≡◌, ℕ, ◌+◌, ◌-◌, ◌*◌, ◌/◌, ◌%◌, ◌<◌, ◌≤◌, min, List, ◌++◌, Option, Some, None, find, ltb, ⊎_elim, sym, ap, ◌∙◌, div-add-mod', arith}
use native.Mathlib.Nat.{mul-mod_right, mul-sub, div-add-mod}
use Rattle.std.proofs.lemmas.Bool.{cases_lt}
use Rattle.std.specs.Option.{option_map, unwrap_or}
use Rattle.terms.specs.declared.steps.StepBand.{StepBand}
use Rattle.terms.specs.Steps.{step_in, Listed}
use Rattle.terms.proofs.Grid as grid
use Rattle.terms.proofs.Grid.{Turn}
use Rattle.strikelists.specs.Spans.{Ends, EvenRun}
use Rattle.strikelists.specs.Runs.{behind, rungs, run_end}
use Rattle.strikelists.proofs.Stretches.{split, climb}

pub record NextRun (bands : List StepBand) (low high s end : ℕ) : Type 0 where
  pub even : EvenRun low s end
  pub rest : Ends bands end high
  pub list : behind bands low high ≡ rungs low s ((end - low) / s) ++ behind bands end high

record Reach (bands : List StepBand) (low high end : ℕ) : Type 0 where
  below : low < end
  within : end ≤ high
  stands : Listed bands end
  on : end % step_in bands low ≡ 0
  even : (x : ℕ) → low ≤ x → x < end → step_in bands x ≡ step_in bands low

-- what divides two numbers divides the way between them
way : (a b s : ℕ) → a ≤ b → 0 < s → a % s ≡ 0 → b % s ≡ 0 → (b - a) % s ≡ 0
way a b s le p ea eb =
    let e : b - a ≡ s * (b / s - a / s) = omega (arith, div-add-mod a s, div-add-mod b s, mul-sub s (b / s) (a / s)) in
    rw e (mul-mod_right s (b / s - a / s))

-- up to the next band, or to a strike before it, one step holds, and it divides the way
reach : (bands : List StepBand) (low high : ℕ) (o : Option StepBand) → Ends bands low high → low < high → Turn (step_in bands) low o
    → Reach bands low high (min (unwrap_or (option_map (λ b. b.from) o) high) high)
reach bands low high None e lt t =
    let m : min high high ≡ high = omega arith in
    rw m (record { below = lt; within = omega arith; stands = e.to; on = rw (← t high (omega arith)) e.to.whole; even = λ x lo hi. t x lo })
reach bands low high (Some b) e lt t =
    ⊎_elim
    (λ less.
    let m : min b.from high ≡ high = omega arith in
    let same = t.3 high (omega arith) less in
    rw m (record { below = lt; within = omega arith; stands = e.to; on = rw (← same) e.to.whole; even = λ x lo hi. t.3 x lo (omega arith) }))
    (λ le.
    let m : min b.from high ≡ b.from = omega arith in
    rw m (record { below = t.0; within = le; stands = record { some = omega (arith, t.0); whole = t.2 }; on = t.1; even = t.3 }))
    (cases_lt high b.from)

pub next_run : {bands : List StepBand} {low high s end : ℕ} → Ends bands low high → low < high → s ≡ step_in bands low → end ≡ run_end bands low high → NextRun bands low high s end
next_run {bands} {low} {high} {s} {end} e lt step at =
    let found : Reach bands low high end = rw at (reach bands low high (find (λ b. ltb low b.from) bands) e lt (grid.turns bands e.grid.join low)) in
    let rises : 0 < s = omega (arith, step, grid.rises bands e.grid.join low) in
    let on : end % s ≡ 0 = rw step found.on in
    let start : low % s ≡ 0 = rw step e.from.whole in
    let whole = way low end s (omega (arith, found.below)) rises start on in
    let n = (end - low) / s in
    let m : low + n * s ≡ end = omega (arith, div-add-mod' (end - low) s, whole, found.below) in
    let up = climb bands n low s e.grid e.from (λ x lo hi. found.even x lo (omega arith) ∙ sym step) rises in
    let list = rw m at up.1 in
    record {
      even = record { positive = rises; order = found.below; whole = whole };
      rest = record { grid = e.grid; from = found.stands; to = e.to; order = found.within; most = e.most };
      list = split bands low end high (omega (arith, found.below)) found.within ∙ ap (λ xs. xs ++ behind bands end high) list;
    }
