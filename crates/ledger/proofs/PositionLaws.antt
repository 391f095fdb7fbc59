-- Positions: what keeps or adds units, where there are no minis, their keys, and what moves from one series to another.
use Rattle.std.proofs.Common.{◌≡◌, ℕ, ◌<◌, ◌≤◌, Bool, true, false, cond, not, ◌&&◌, eqb, [], ◌∷◌, ℤ, pos, ◌+ℤ◌, ◌-ℤ◌, ◌*ℤ◌, neg_ℤ, nat_abs, sym, refl, ap, ◌∙◌, arith}
use Rattle.std.proofs.lemmas.Grind.{common_steps}
use borrow.Author.Differences.{ints}
use Rattle.std.proofs.lemmas.Bool.Decides.{nat_tests}
use Rattle.std.proofs.lemmas.Bool.{eqb-true, eqb-false, true≢false}
use Rattle.registers.specs.Rows.{Rows, Rising}
use Rattle.registers.specs.Sums.{total_ℤ}
use Rattle.terms.specs.declared.kinds.AccountKind.{AccountKind}
use Rattle.terms.specs.declared.kinds.AccountKind.TheVariants.{House, Maker, Client}
use Rattle.terms.specs.declared.kinds.SeriesKind.{SeriesKind}
use Rattle.terms.specs.declared.kinds.Size.{Size}
use Rattle.terms.specs.declared.kinds.Size.TheVariants.{Full, Mini}
use Rattle.positions.specs.declared.position.Position.{Position}
use Rattle.positions.specs.Positions.{flat, units, added, less, settled, dealt, signed_like, closed, closable}
use Rattle.positions.specs.Keys.{line_key, series_of_key, account_of_key}
use Rattle.ledger.specs.Calls.{Pricing}
use Rattle.ledger.specs.Rows.{at, revise, outside}
use Rattle.ledger.specs.Charges.{bought_fees}
use Rattle.ledger.specs.Post.{lots, assigned}
use Rattle.ledger.proofs.RowLaws.{at_revise, total-revise, total_kept}

-- ---- units
less_units : (k : ℤ) (p : Position) → units (less k p) ≡ units p
less_units k p = omega (arith, ints)

pub settled_units : (h : AccountKind) (p : Position) → units (settled h p) ≡ units p
settled_units House p = grind (arith, common_steps)
settled_units Maker p = grind (arith, common_steps)
settled_units Client p = refl

added_units : (z : Size) (n : ℤ) (p : Position) → units (added z n p) ≡ units p +ℤ lots z n
added_units Full n p = omega (arith, ints)
added_units Mini n p = omega (arith, ints)

pub dealt_units : (h : AccountKind) (z : Size) (n : ℤ) (p : Position) → units (dealt h z n p) ≡ units p +ℤ lots z n
dealt_units h z n p = settled_units h (added z n p) ∙ added_units z n p

pub closed_units : (k : ℕ) (p : Position) → units (closed k p) ≡ units p
closed_units k p = less_units (signed_like p.fulls k) p

pub assigned_units : (h : AccountKind) (n : ℤ) (p : Position) → units (assigned h n p) ≡ units p +ℤ pos 5 *ℤ n
unfolding assigned
assigned_units h n p = ways (eqb (nat_abs n) 0) refl
  where
    ways : (c : Bool) → eqb (nat_abs n) 0 ≡ c → units (cond c p (dealt h Full n p)) ≡ units p +ℤ pos 5 *ℤ n
    ways true e = let z = eqb-true (nat_abs n) 0 e in omega (arith, ints)
    ways false e = dealt_units h Full n p

pub assigned_none : (h : AccountKind) (p : Position) → assigned h (pos 0) p ≡ p
unfolding assigned
assigned_none h p = refl

pub lots_neg : (z : Size) (n : ℤ) → lots z (neg_ℤ n) ≡ neg_ℤ (lots z n)
lots_neg z n = grind arith

-- ---- where there are no minis there never will be
pub dealt_minis : (h : AccountKind) (n : ℤ) (p : Position) → p.minis ≡ pos 0 → (dealt h Full n p).minis ≡ pos 0
dealt_minis h n p e = grind arith

pub closable_minis : (k : ℕ) (p : Position) → 1 ≤ k → p.minis ≡ pos 0 → closable k p ≡ true → ⊥
closable_minis k p h e c = grind arith

pub bought_fees_none : (p : Pricing) (a : ℕ) (h : AccountKind) (k : SeriesKind) → bought_fees p a h k flat ≡ pos 0
unfolding bought_fees
bought_fees_none p a h k = refl

-- ---- keys
pub series_of_key_lem : (s a : ℕ) → a < 65536 → series_of_key (line_key s a) ≡ s
series_of_key_lem s a h = omega arith

pub account_of_key_lem : (s a : ℕ) → a < 65536 → account_of_key (line_key s a) ≡ a
account_of_key_lem s a h = omega arith

-- a row is that of a series and an account if its key is
pub key_is : (k s a : ℕ) → a < 65536 → eqb (line_key s a) k ≡ (eqb (series_of_key k) s && eqb a (account_of_key k))
key_is k s a h = grind (arith, nat_tests)

-- ---- one position changed
pub at_line : (f : Position → Position) (s c n a : ℕ) (ps : Rows Position) → a < 65536 → c < 65536 → Rising 0 ps
    → at flat (revise f (line_key s c) ps) (line_key n a) ≡ cond (eqb n s && eqb a c) (f (at flat ps (line_key n a))) (at flat ps (line_key n a))
at_line f s c n a ps h g o = grind (arith, at_revise)

-- the units of a row, where it is in the series s
abbrev pub units_in : ℕ → ℕ → Position → ℤ
units_in s k p = cond (eqb (series_of_key k) s) (units p) (pos 0)

pub if_units : (c : Bool) (x y d : ℤ) → x ≡ y +ℤ d → cond c x (pos 0) -ℤ cond c y (pos 0) ≡ cond c d (pos 0)
if_units c x y d e = grind arith

flat_units : (c : Bool) → cond c (units flat) (pos 0) ≡ pos 0
flat_units c = grind arith

pub total_line : (f : Position → Position) (d : ℤ) (k n : ℕ) (ps : Rows Position) → ((p : Position) → units (f p) ≡ units p +ℤ d)
    → total_ℤ (units_in n) (revise f k ps) ≡ total_ℤ (units_in n) ps +ℤ cond (eqb (series_of_key k) n) d (pos 0)
total_line f d k n ps e =
    total-revise f k ps (units_in n) (flat_units (eqb (series_of_key k) n))
    ∙ ap (λ (y : ℤ). total_ℤ (units_in n) ps +ℤ y) (if_units (eqb (series_of_key k) n) (units (f (at flat ps k))) (units (at flat ps k)) d (e (at flat ps k)))

-- ---- a series taken out
pub total-outside : (m s : ℕ) (ps : Rows Position) → total_ℤ (units_in m) (outside s ps) ≡ cond (eqb m s) (pos 0) (total_ℤ (units_in m) ps)
unfolding total_ℤ
total-outside m s ps = total_kept (units_in m) (λ k. not (eqb (series_of_key k) s)) ps ∙ ways (eqb m s) refl ps
  where
    ways : (c : Bool) → eqb m s ≡ c → (rs : Rows Position) → total_ℤ (λ k p. cond (not (eqb (series_of_key k) s)) (units_in m k p) (pos 0)) rs ≡ cond c (pos 0) (total_ℤ (units_in m) rs)
    ways true e [] = refl
    ways false e [] = refl
    ways true e (r ∷ rs) = omega (arith, ints, ways true e rs, one (eqb (series_of_key r.0) s) (eqb (series_of_key r.0) m) (ap (eqb (series_of_key r.0)) (sym (eqb-true m s e))))
      where
        one : (x y : Bool) → x ≡ y → cond (not x) (cond y (units r.1) (pos 0)) (pos 0) ≡ pos 0
        one true y q = refl
        one false true q = absurd (true≢false (sym q))
        one false false q = refl
    ways false e (r ∷ rs) = omega (arith, ints, ways false e rs, one (eqb (series_of_key r.0) s) (eqb (series_of_key r.0) m) refl refl)
      where
        one : (x y : Bool) → eqb (series_of_key r.0) s ≡ x → eqb (series_of_key r.0) m ≡ y → cond (not x) (cond y (units r.1) (pos 0)) (pos 0) ≡ cond y (units r.1) (pos 0)
        one true true p q = absurd (eqb-false m s e (sym (eqb-true (series_of_key r.0) m q) ∙ eqb-true (series_of_key r.0) s p))
        one true false p q = refl
        one false y p q = refl
