-- The strikes of a stretch as one list, and runs of strikes that lie one step apart: what the code is held to inside.
use Rattle.std.specs.Prelude.{◌≡◌, ℕ, suc, ◌+◌, ◌-◌, ◌*◌, ◌/◌, ◌%◌, Bool, ◌&&◌, List, map, filter, ◌==◌, nat_lt, find, min, [], ◌++◌, Option, MatchOption}
use Rattle.std.specs.List.{range_with_len}
use Rattle.std.specs.Option.{option_map, unwrap_or}
use Rattle.terms.specs.declared.steps.StepBand.{StepBand}
use Rattle.terms.specs.Steps.{step_in}
use Rattle.strikelists.specs.declared.span.Run.{Run}
use Rattle.strikelists.specs.declared.span.Span.{Span}

abbrev pub listed : List StepBand → ℕ → Bool
listed bands k = nat_lt 0 k && k % step_in bands k == 0

-- the whole numbers from low to high that are strikes, in their order
abbrev pub stretch : List StepBand → ℕ → ℕ → List ℕ
stretch bands low high = filter (listed bands) (range_with_len low (suc high - low))

-- the same without low
abbrev pub behind : List StepBand → ℕ → ℕ → List ℕ
behind bands low high = filter (listed bands) (range_with_len (low + 1) (high - low))

-- all strikes of a span, and those above its lower strike
abbrev pub strikes_of : Span → List ℕ
strikes_of span = stretch span.grid.steps.bands span.low span.high

abbrev pub above : Span → List ℕ
above span = behind span.grid.steps.bands span.low span.high

-- n numbers above k, a step apart
abbrev pub rungs : ℕ → ℕ → ℕ → List ℕ
rungs k step n = map (λ i. k + suc i * step) (range_with_len 0 n)

abbrev pub rungs_in : Run → ℕ
rungs_in run = (run.end - run.from) / run.step

abbrev pub rungs_of : Run → List ℕ
rungs_of run = rungs run.from run.step (rungs_in run)

-- where the first band above a strike begins, or `high` where none begins before it
abbrev pub run_end : List StepBand → ℕ → ℕ → ℕ
run_end bands strike high = min (unwrap_or (option_map (λ b. b.from) (find (λ b. nat_lt strike b.from) bands)) high) high

-- the first run of those left, or none where no strike is left
abbrev pub TakesRun : Span → Option Run → Span → Type 0
TakesRun old run new = MatchOption run (above old ≡ []) (λ r. above old ≡ rungs_of r ++ above new)
