-- The positions of a series that move to another one.
use Rattle.std.proofs.Common.{◌≡◌, ℕ, suc, ◌<◌, Bool, true, false, cond, ◌&&◌, eqb, ltb, [], ◌∷◌, ℤ, pos, ◌+ℤ◌, Some, None, fold, unwrap_or, sym, refl, ap, ◌∙◌, arith}
use borrow.Author.Differences.{ints}
use Rattle.std.proofs.lemmas.Bool.{eqb-true, ltb-true, true≢false}
use Rattle.registers.specs.Rows.{Rows, Rising, lookup}
use Rattle.registers.specs.Sums.{total_ℤ}
use Rattle.positions.specs.declared.position.Position.{Position}
use Rattle.positions.specs.Positions.{flat, units, is_flat}
use Rattle.positions.specs.Keys.{line_key, series_of_key, account_of_key}
use Rattle.ledger.specs.Rows.{at, revise, in_series, Each}
use Rattle.ledger.specs.Post.{move_each}
use Rattle.ledger.proofs.RowLaws.{at_below, rising_revise, each_revise}
use Rattle.ledger.proofs.PositionLaws.{series_of_key_lem, key_is, at_line, units_in, total_line}

-- ---- one more row
pub rows_on : {B : Type 0} (g : B → ℕ × Position → B) (s : ℕ) (r : ℕ × Position) (rs : Rows Position) (b : B)
    → fold g b (in_series s (r ∷ rs)) ≡ fold g (cond (eqb (series_of_key r.0) s) (g b r) b) (in_series s rs)
rows_on g s r rs b = grind arith

module _ (s m : ℕ) (f : ℕ → Position → Position → Position) where
  abbrev one : Rows Position → ℕ × Position → Rows Position
  one qs r = revise (f (account_of_key r.0) r.1) (line_key m (account_of_key r.0)) qs

  pub rising_move_each : (rs ls : Rows Position) → Rising 0 ls → Rising 0 (move_each m f rs ls)
  rising_move_each [] ls o = o
  rising_move_each (r ∷ rs) ls o = rising_move_each rs _ (rising_revise (f (account_of_key r.0) r.1) (line_key m (account_of_key r.0)) ls o)

  pub at_move_each : ((a : ℕ) (l : Position) → f a flat l ≡ l) → (n a lo : ℕ) (rs ls : Rows Position) → a < 65536 → Rising lo rs → Rising 0 ls
      → at flat (move_each m f (in_series s rs) ls) (line_key n a) ≡ cond (eqb n m) (f a (at flat rs (line_key s a)) (at flat ls (line_key n a))) (at flat ls (line_key n a))
  unfolding lookup
  at_move_each same n a lo [] ls h o q = ways (eqb n m)
    where
      ways : (c : Bool) → at flat ls (line_key n a) ≡ cond c (f a flat (at flat ls (line_key n a))) (at flat ls (line_key n a))
      ways true = sym (same a (at flat ls (line_key n a)))
      ways false = refl
  at_move_each same n a lo (r ∷ rs) ls h o q =
      ap (λ (qs : Rows Position). at flat qs (line_key n a)) (rows_on one s r rs ls)
      ∙ at_move_each same n a (suc r.0) rs next h o.1 (grow (eqb (series_of_key r.0) s))
      ∙ ap (λ (x : Position). cond (eqb n m) (f a R x) x) (look (eqb (series_of_key r.0) s))
      ∙ ways (eqb n m) (ltb (line_key s a) r.0) (eqb (line_key s a) r.0) (eqb (series_of_key r.0) s) (eqb a c) refl refl (key_is r.0 s a h) (λ e. eqb-true a c e)
    where
      c : ℕ
      c = account_of_key r.0

      R : Position
      R = at flat rs (line_key s a)

      L : Position
      L = at flat ls (line_key n a)

      next : Rows Position
      next = cond (eqb (series_of_key r.0) s) (revise (f c r.1) (line_key m c) ls) ls

      grow : (t : Bool) → Rising 0 (cond t (revise (f c r.1) (line_key m c) ls) ls)
      grow true = rising_revise (f c r.1) (line_key m c) ls q
      grow false = q

      look : (t : Bool) → at flat (cond t (revise (f c r.1) (line_key m c) ls) ls) (line_key n a) ≡ cond t (cond (eqb n m && eqb a c) (f c r.1 L) L) L
      look true = at_line (f c r.1) m c n a ls h (omega arith) q
      look false = refl

      ways : (x b e t y : Bool) → ltb (line_key s a) r.0 ≡ b → eqb (line_key s a) r.0 ≡ e → eqb (line_key s a) r.0 ≡ (t && y) → (y ≡ true → a ≡ c)
          → cond x (f a R (cond t (cond (x && y) (f c r.1 L) L) L)) (cond t (cond (x && y) (f c r.1 L) L) L)
          ≡ cond x (f a (unwrap_or (cond b None (cond e (Some r.1) (lookup rs (line_key s a)))) flat) L) L
      ways false b e true y eb ee ek g = refl
      ways false b e false y eb ee ek g = refl
      ways true true true t y eb ee ek g = absurd (omega (arith, ltb-true (line_key s a) r.0 eb, eqb-true (line_key s a) r.0 ee))
      ways true true false true true eb ee ek g = absurd (true≢false (sym ek ∙ ee))
      ways true true false true false eb ee ek g = ap (λ (l : Position). f a l L) (at_below flat (line_key s a) (suc r.0) rs o.1 (omega (arith, ltb-true (line_key s a) r.0 eb)))
      ways true true false false y eb ee ek g = ap (λ (l : Position). f a l L) (at_below flat (line_key s a) (suc r.0) rs o.1 (omega (arith, ltb-true (line_key s a) r.0 eb)))
      ways true false true true true eb ee ek g =
          ap (λ (l : Position). f a l (f c r.1 L)) (at_below flat (line_key s a) (suc r.0) rs o.1 (omega (arith, eqb-true (line_key s a) r.0 ee)))
          ∙ same a (f c r.1 L) ∙ ap (λ (i : ℕ). f i r.1 L) (sym (g refl))
      ways true false true true false eb ee ek g = absurd (true≢false (sym ee ∙ ek))
      ways true false true false y eb ee ek g = absurd (true≢false (sym ee ∙ ek))
      ways true false false true true eb ee ek g = absurd (true≢false (sym ek ∙ ee))
      ways true false false true false eb ee ek g = refl
      ways true false false false y eb ee ek g = refl

  pub total-move_each : (g : Position → ℤ) → ((a : ℕ) (l x : Position) → units (f a l x) ≡ units x +ℤ g l) → (n : ℕ) (rs ls : Rows Position)
      → total_ℤ (units_in n) (move_each m f rs ls) ≡ total_ℤ (units_in n) ls +ℤ cond (eqb m n) (total_ℤ (λ _ l. g l) rs) (pos 0)
  unfolding total_ℤ
  total-move_each g e n [] ls = none (eqb m n)
    where
      none : (b : Bool) → total_ℤ (units_in n) ls ≡ total_ℤ (units_in n) ls +ℤ cond b (pos 0) (pos 0)
      none true = omega (arith, ints)
      none false = omega (arith, ints)
  total-move_each g e n (r ∷ rs) ls =
      total-move_each g e n rs _
      ∙ ap (λ (y : ℤ). y +ℤ cond (eqb m n) T (pos 0)) (total_line (f c r.1) (g r.1) (line_key m c) n ls (e c r.1)
      ∙ ap (λ (q : ℕ). total_ℤ (units_in n) ls +ℤ cond (eqb q n) (g r.1) (pos 0)) (series_of_key_lem m c (omega arith)))
      ∙ sum (eqb m n) (total_ℤ (units_in n) ls)
    where
      c : ℕ
      c = account_of_key r.0

      T : ℤ
      T = total_ℤ (λ _ l. g l) rs

      sum : (b : Bool) (u : ℤ) → (u +ℤ cond b (g r.1) (pos 0)) +ℤ cond b T (pos 0) ≡ u +ℤ cond b (g r.1 +ℤ T) (pos 0)
      sum true u = omega (arith, ints)
      sum false u = omega (arith, ints)

  pub each_move_each : (P : ℕ → Position → Type 0) → ((a : ℕ) (l : Position) → a < 65536 → is_flat l ≡ false → P (line_key m a) l) → (rs ls : Rows Position) → Each P ls → Each P (move_each m f rs ls)
  each_move_each P h [] ls o = o
  each_move_each P h (r ∷ rs) ls o =
      each_move_each P h rs _ (each_revise (f (account_of_key r.0) r.1) (line_key m (account_of_key r.0)) ls P o (λ g. h (account_of_key r.0) _ (omega arith) g))
