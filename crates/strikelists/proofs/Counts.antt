-- What the runs of a span count together.
use Rattle.std.proofs.Common.{◌≡◌, ℕ, ◌+◌, ◌<◌, List, [], ◌∷◌, length, fold, Option, refl, ap, ◌≤◌, ◌-◌, arith, length-append}
use Rattle.std.specs.Bool.{⊤}
use Rattle.std.specs.Iterator.{Yields, Drains}
use Rattle.std.specs.Iterator.Runs.{EachRunFrom, YieldsRun}
use Rattle.std.specs.List.{range_with_len}
use Rattle.std.proofs.lemmas.List.Sums.{length-filter, count_by-le-length}
use Rattle.std.proofs.lemmas.Grind.{common_steps}
use Rattle.terms.specs.declared.steps.StepBand.{StepBand}
use Rattle.std.specs.Iterator.Adapters.{map_source, map_callee, map_steps}
use Rattle.std.specs.declared.iter.Map.{Map}
use Rattle.std.specs.Fn.{Called}
use denote.Param.Members.{Mut}
use Rattle.std.proofs.lemmas.List.FromFn.{length-map-range_with_len, length-range_with_len}
use Rattle.strikelists.specs.declared.span.Span.{Span}
use Rattle.strikelists.specs.declared.span.Run.{Run}
use Rattle.strikelists.proofs.Stretches.{lowest}
use Rattle.strikelists.specs.Runs.{listed, strikes_of, behind, above, rungs_in, rungs_of, TakesRun}

pub length-rungs_of : (r : Run) → length (rungs_of r) ≡ rungs_in r
length-rungs_of r = length-map-range_with_len _ 0 (rungs_in r)

pub few_behind : (bands : List StepBand) (low high : ℕ) → length (behind bands low high) ≤ high - low
few_behind bands low high = grind (arith, common_steps, length-filter (listed bands) (range_with_len (low + 1) (high - low)), count_by-le-length (listed bands) (range_with_len (low + 1) (high - low)), length-range_with_len (low + 1) (high - low))

module _ {S F : Type 0} (left : S → Span) (g : Mut F (Run × Unit {0}) ℕ) (f : F) (k : (r : Run) (n : ℕ) (q : F) → Called g f (r, tt) n q → (q ≡ f) × (n ≡ rungs_in r)) where
  abbrev counts : Map S F → Option ℕ → Map S F → Type 0
  counts = map_steps (λ s r t. TakesRun (left s) r (left t)) g

  abbrev ahead : Map S F → ℕ
  ahead s = length (above (left (map_source s)))

  -- the rungs so far and the strikes that are left are as many as the strikes that were left
  counted : (ns : List ℕ) (a : ℕ) (s t : Map S F) → map_callee s ≡ f → Yields counts s ns t → fold (λ b n. b + n) a ns + ahead t ≡ a + ahead s
  counted [] a s t e y = rw y refl
  counted (n ∷ ns) a s t e y =
      let c = k y.1.0 n _ (rw e at y.1.2) in
      omega (arith, counted ns (a + n) y.0 t c.0 y.2, c.1, length-rungs_of y.1.0, simp length-append at (ap length y.1.1))

  module _ {s : Map S F} (e : map_callee s ≡ f) (span : Span) (at : left (map_source s) ≡ span) where
    most : ahead s ≤ 200000
    most = omega (arith, ap (λ sp. length (above sp)) at, few_behind span.grid.steps.bands span.low span.high, span.ends.most)

    -- so they fit
    pub fits : EachRunFrom counts s (λ p. fold (λ b n. b + n) 0 p.items < 18446744073709551616)
    unfolding YieldsRun
    fits = λ p _ from. omega (arith, counted p.items 0 s p.gave.0.0 e (rw from at p.gave.0.1), most)

    -- and together they are the strikes behind the first
    pub total : (n : ℕ) → (ns : List ℕ) × (⊤ → Drains counts s ns) × (n ≡ fold (λ b n. b + n) 0 ns)
        → (1 + n ≡ length (strikes_of span)) × (n ≤ 200000)
    total n sums =
        let all = sums.1 tt in
        let is : n ≡ ahead s = omega (arith, counted sums.0 0 s all.1.0 e all.1.1, ap length all.1.2.0, sums.2) in
        (omega (arith, ap (λ sp. length (above sp)) at, ap length (lowest span)), omega (arith, most))
