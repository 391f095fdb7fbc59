-- Cash in cents.
use Rattle.std.specs.Prelude.{ℕ, ◌-◌, ◌*◌, Bool, true, ℤ, pos, ◌*ℤ◌, nat_le, unsigned_abs}
use Rattle.terms.specs.declared.family.Family.{Family}
use Rattle.terms.specs.declared.kinds.SeriesKind.{SeriesKind}
use Rattle.terms.specs.declared.kinds.SeriesKind.TheVariants.{Future, Call, Put, CallOnFuture, PutOnFuture}
use Rattle.terms.specs.Families.{cents_of}

-- what n units get from a move of p hundredths
unfoldable pub amount : Family → ℤ → ℤ → ℤ
amount f n p = n *ℤ (pos (cents_of f) *ℤ p)

-- a cash balance lies from −100,000,000,000,000,000 to 100,000,000,000,000,000 cents
abbrev pub balance_in : ℤ → Bool
balance_in x = nat_le (unsigned_abs x) 100000000000000000

-- how far the final price passes the strike in a cash option's favour, in hundredths
abbrev pub payoff : SeriesKind → ℕ → ℕ → ℕ
payoff Future strike final = 0
payoff Call strike final = final - 100 * strike
payoff Put strike final = 100 * strike - final
payoff CallOnFuture strike final = 0
payoff PutOnFuture strike final = 0

-- a call on the future is exercised where the strike is below the level, a put where it is above
abbrev pub lapses : SeriesKind → ℕ → ℕ → Bool
lapses Future strike level = true
lapses Call strike level = true
lapses Put strike level = true
lapses CallOnFuture strike level = nat_le level (100 * strike)
lapses PutOnFuture strike level = nat_le (100 * strike) level
