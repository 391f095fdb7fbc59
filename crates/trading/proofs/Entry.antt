-- Sizes and kinds, by the tests of the rules and by the types.
use Rattle.std.proofs.Common.{◌≡◌, false, refl}
use Rattle.terms.specs.declared.kinds.SeriesKind.{SeriesKind}
use Rattle.terms.specs.declared.kinds.SeriesKind.TheVariants.{Future, Call, Put, CallOnFuture, PutOnFuture}
use Rattle.terms.specs.declared.kinds.Size.{Size}
use Rattle.terms.specs.declared.kinds.Size.TheVariants.{Full, Mini}
use Rattle.terms.specs.Kinds.{size_number}
use Rattle.ledger.specs.Numbers.{size_of, is_future}

pub size_of_lem : (z : Size) → size_of (size_number z) ≡ z
size_of_lem Full = refl
size_of_lem Mini = refl

-- ---- futures
pub not_future : (k : SeriesKind) → (k ≡ Future → ⊥) → is_future k ≡ false
not_future Future h = absurd (h refl)
not_future Call h = refl
not_future Put h = refl
not_future CallOnFuture h = refl
not_future PutOnFuture h = refl
