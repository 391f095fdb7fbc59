-- Positions: full contracts of five units and minis of one, below zero where they are sold.
use Rattle.std.specs.Prelude.{ℕ, suc, ◌/◌, min, Bool, cond, ◌&&◌, ℤ, pos, negsuc, ◌+ℤ◌, ◌-ℤ◌, ◌*ℤ◌, neg_ℤ, Some, None, Option, ◌==◌, nat_le, unsigned_abs}
use Rattle.terms.specs.declared.kinds.AccountKind.{AccountKind}
use Rattle.terms.specs.declared.kinds.AccountKind.TheVariants.{House, Maker, Client}
use Rattle.terms.specs.declared.kinds.Size.{Size}
use Rattle.terms.specs.declared.kinds.Size.TheVariants.{Full, Mini}
use Rattle.positions.specs.declared.position.Position.{Position}

abbrev pub position : ℤ → ℤ → Position
position f m = record { fulls = f; minis = m }

-- no contract at all
abbrev pub flat : Position
flat = position (pos 0) (pos 0)

abbrev pub units : Position → ℤ
units p = pos 5 *ℤ p.fulls +ℤ p.minis

abbrev pub is_flat : Position → Bool
is_flat p = unsigned_abs p.fulls == 0 && unsigned_abs p.minis == 0

-- n more contracts of a size, fewer where n is below zero
abbrev pub added : Size → ℤ → Position → Position
added Full n p = position (p.fulls +ℤ n) p.minis
added Mini n p = position p.fulls (p.minis +ℤ n)

-- k fulls and 5k minis of the other sign taken off; k has the sign of the fulls
abbrev pub less : ℤ → Position → Position
less k p = position (p.fulls -ℤ k) (p.minis +ℤ pos 5 *ℤ k)

-- how many fulls stand against five minis each of the other sign, with the sign of the fulls
abbrev pub opposed : ℤ → ℤ → ℤ
opposed (pos f) (pos m) = pos 0
opposed (pos f) (negsuc m) = pos (min f (suc m / 5))
opposed (negsuc f) (pos m) = neg_ℤ (pos (min (suc f) (m / 5)))
opposed (negsuc f) (negsuc m) = pos 0

-- all of them taken off
abbrev pub offset : Position → Position
offset p = less (opposed p.fulls p.minis) p

-- house and maker accounts are offset by themselves, a client's are not
abbrev pub settled : AccountKind → Position → Position
settled House p = offset p
settled Maker p = offset p
settled Client p = p

-- after n more contracts of a size in an account of that kind
abbrev pub dealt : AccountKind → Size → ℤ → Position → Position
dealt h z n p = settled h (added z n p)

-- k with the sign of n
abbrev pub signed_like : ℤ → ℕ → ℤ
signed_like (pos n) k = pos k
signed_like (negsuc n) k = neg_ℤ (pos k)

-- k fulls and 5k minis of the other sign closed
abbrev pub closed : ℕ → Position → Position
closed k p = less (signed_like p.fulls k) p

-- k fulls and 5k minis of opposite sign are there
abbrev pub closable : ℕ → Position → Bool
closable k p = nat_le k (unsigned_abs (opposed p.fulls p.minis))

-- a count is in range from −1,000,000 to 1,000,000
abbrev pub count_in : ℤ → Bool
count_in n = nat_le (unsigned_abs n) 1000000

abbrev pub in_range : Position → Bool
in_range p = count_in p.fulls && count_in p.minis

-- the position, where its counts are in range
abbrev pub counted : Position → Option Position
counted p = cond (in_range p) (Some p) None
