use Rattle.std.proofs.Common.{◌≡◌, ℕ, ◌<◌, get_or, take}
use Rattle.terms.specs.Ranges.{PriceRange}
use Rattle.fixings.specs.Calls.{taken}
use Rattle.fixings.proofs.whole.take_all.Given as goal

abbrev pub invariant-loop-price : goal.invariant-loop-price
invariant-loop-price l =
    (l.fixing.family ≡ l.initial.fixing.family)
    × (l.fixing.expected ≡ l.initial.fixing.expected)
    × (taken l.fixing ≡ take l.price-index l.samples)
    × ((k : ℕ) → k < l.price-index → PriceRange (get_or l.samples k 0))
