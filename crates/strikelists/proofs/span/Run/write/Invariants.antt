use Rattle.std.proofs.Common.{◌≡◌, ℕ, ◌+◌, ◌*◌, ◌<◌, get_or, suc}
use Rattle.strikelists.proofs.span.Run.write.Given as goal

abbrev pub invariant-loop-place : goal.invariant-loop-place
invariant-loop-place l =
    (l.strike ≡ l.self.from + l.place-index * l.self.step)
    × ((k : ℕ) → k < l.place-index → get_or l.part k 0 ≡ l.self.from + suc k * l.self.step)
