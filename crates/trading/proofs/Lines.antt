-- Two positions of one series changed, of two accounts: what stands there, how many rows there are, and in which order they are written.
use Rattle.std.proofs.Common.{◌≡◌, ℕ, suc, ◌+◌, ◌<◌, ◌≤◌, Bool, true, false, ◌||◌, cond, [], ◌∷◌, length, is_some, Some, None, Option, unwrap_or, sym, refl, ap, ◌∙◌, arith}
use Rattle.std.proofs.lemmas.Bool.{lt-ltb, or_left, or_right}
use Rattle.std.proofs.lemmas.Bool.Decides.{nat_tests}
use Rattle.registers.specs.Rows.{Rows, Rising, lookup, put, without, place_for}
use Rattle.registers.specs.Sums.{share}
use Rattle.registers.proofs.OneRow.{lookup-put_other, lookup-without_other}
use Rattle.registers.proofs.Sums.{length-put, length_without}
use Rattle.positions.specs.declared.position.Position.{Position}
use Rattle.positions.specs.Positions.{flat, is_flat, in_range, counted}
use Rattle.positions.specs.Keys.{line_key}
use Rattle.ledger.specs.Rows.{at, placed, revise}
use Rattle.ledger.proofs.RowLaws.{flat_is}
use Rattle.trading.specs.Found.{standing, stands_after, stands_before}

-- ---- one row
lookup_placed : (k j : ℕ) (p : Position) (ps : Rows Position) → Rising 0 ps → (j ≡ k → ⊥) → lookup (placed k p ps) j ≡ lookup ps j
lookup_placed k j p ps o n = ways (is_flat p)
  where
    ways : (c : Bool) → lookup (cond c (without k ps) (put k p ps)) j ≡ lookup ps j
    ways true = lookup-without_other k j 0 ps o n
    ways false = lookup-put_other k j p ps n

before_is : (k : ℕ) (x : Option Position) → share (λ _ _. 1) k x ≡ stands_before x
before_is k None = refl
before_is k (Some p) = refl

length_placed : (k : ℕ) (p : Position) (ps : Rows Position) → length (placed k p ps) + stands_before (lookup ps k) ≡ length ps + standing p
length_placed k p ps = rw (← before_is k (lookup ps k)) (ways (is_flat p))
  where
    ways : (c : Bool) → length (cond c (without k ps) (put k p ps)) + share (λ _ _. 1) k (lookup ps k) ≡ length ps + cond c 0 1
    ways true = omega (arith, length_without k ps)
    ways false = length-put k p ps

pub place_for_lem : {V : Type 0} (k : ℕ) (v : V) (rs : Rows V) (room : ℕ) → length (put k v rs) ≤ room → place_for k rs room ≡ true
place_for_lem {V} k v rs room h = ways (lookup rs k) refl
  where
    ways : (x : Option V) → lookup rs k ≡ x → place_for k rs room ≡ true
    ways None e = or_right _ _ (lt-ltb (length rs) room (omega (arith, length-put k v rs, ap (share (λ _ _. 1) k) e)))
    ways (Some y) e = or_left _ _ (ap is_some e)

pub put_longer : {V : Type 0} (k : ℕ) (v : V) (rs : Rows V) → length rs ≤ length (put k v rs)
put_longer {V} k v rs = ways (lookup rs k) refl
  where
    ways : (x : Option V) → lookup rs k ≡ x → length rs ≤ length (put k v rs)
    ways None e = omega (arith, length-put k v rs, ap (share (λ _ _. 1) k) e)
    ways (Some y) e = omega (arith, length-put k v rs, ap (share (λ _ _. 1) k) e)

-- ---- two rows
pub keys_apart : (s a e : ℕ) → (a ≡ e → ⊥) → line_key s a ≡ line_key s e → ⊥
keys_apart s a e n h = n (omega arith)

module _ (f g : Position → Position) (j k : ℕ) (ps : Rows Position) (o : Rising 0 ps) (apart : k ≡ j → ⊥) where
  at_other : at flat (revise f j ps) k ≡ at flat ps k
  unfolding revise
  at_other = ap (λ (x : Option Position). unwrap_or x flat) (lookup_placed j k (f (at flat ps j)) ps o apart)

  pub both_placed : revise g k (revise f j ps) ≡ placed k (g (at flat ps k)) (placed j (f (at flat ps j)) ps)
  unfolding revise
  both_placed = ap (λ (p : Position). placed k (g p) (placed j (f (at flat ps j)) ps)) at_other

  pub both_count : length (revise g k (revise f j ps)) + (stands_before (lookup ps j) + stands_before (lookup ps k)) ≡ length ps + (standing (f (at flat ps j)) + standing (g (at flat ps k)))
  both_count =
      let q = f (at flat ps j) in
      let first = length_placed j q ps in
      let second = length_placed k (g (at flat ps k)) (placed j q ps) in
      let found = ap stands_before (lookup_placed j k q ps o apart) in
      rw both_placed (omega arith)

-- a position out of range is not flat
pub stands_counted : (p : Position) → stands_after (counted p) ≡ standing p
stands_counted p = ways (in_range p) (is_flat p) refl refl
  where
    ways : (c d : Bool) → in_range p ≡ c → is_flat p ≡ d → stands_after (cond c (Some p) None) ≡ cond d 0 1
    ways true true e h = ap (λ (x : Bool). cond x 0 1) h
    ways true false e h = ap (λ (x : Bool). cond x 0 1) h
    ways false true e h = absurd (let z : ◌≡◌ {A = Bool} true false = sym (ap in_range (flat_is p h)) ∙ e in let y : ◌≡◌ {A = ℕ} 0 1 = cc in omega arith)
    ways false false e h = refl

-- ---- a row that goes may go first
put_below : {V : Type 0} (k : ℕ) (v : V) (lo : ℕ) (rs : Rows V) → Rising lo rs → k < lo → put k v rs ≡ (k, v) ∷ rs
unfolding put
put_below k v lo [] o h = refl
put_below k v lo (r ∷ rs) o h = rw (lt-ltb k r.0 (omega (arith, o.0)))

without_below : {V : Type 0} (k : ℕ) (lo : ℕ) (rs : Rows V) → Rising lo rs → k < lo → without k rs ≡ rs
unfolding without
without_below k lo [] o h = refl
without_below k lo (r ∷ rs) o h = rw (lt-ltb k r.0 (omega (arith, o.0)))

without_put : {V : Type 0} (k j : ℕ) (v : V) (lo : ℕ) (rs : Rows V) → Rising lo rs → (k ≡ j → ⊥) → without k (put j v rs) ≡ put j v (without k rs)
unfolding without put
without_put k j v lo [] o n = grind (arith, nat_tests)
without_put k j v lo (r ∷ rs) o n =
    let ih = without_put k j v (suc r.0) rs o.1 n in
    let below = put_below j v (suc r.0) rs o.1 in
    grind (arith, nat_tests)

without_without : {V : Type 0} (k j : ℕ) (lo : ℕ) (rs : Rows V) → Rising lo rs → (k ≡ j → ⊥) → without k (without j rs) ≡ without j (without k rs)
unfolding without
without_without k j lo [] o n = refl
without_without k j lo (r ∷ rs) o n =
    let ih = without_without k j (suc r.0) rs o.1 n in
    let below = without_below k (suc r.0) rs o.1 in
    let under = without_below j (suc r.0) rs o.1 in
    grind (arith, nat_tests)

pub goes_first : (k j : ℕ) (p : Position) (ps : Rows Position) → Rising 0 ps → (k ≡ j → ⊥) → without k (placed j p ps) ≡ placed j p (without k ps)
goes_first k j p ps o n = ways (is_flat p)
  where
    ways : (c : Bool) → without k (cond c (without j ps) (put j p ps)) ≡ cond c (without j (without k ps)) (put j p (without k ps))
    ways true = without_without k j 0 ps o n
    ways false = without_put k j p 0 ps o n

-- a position whose row fits is placed
pub placed_fits : (k : ℕ) (p : Position) (rs : Rows Position) (room : ℕ) → length (placed k p rs) ≤ room → (is_flat p || place_for k rs room) ≡ true
placed_fits k p rs room h = ways (is_flat p) h
  where
    ways : (c : Bool) → length (cond c (without k rs) (put k p rs)) ≤ room → (c || place_for k rs room) ≡ true
    ways true h = refl
    ways false h = place_for_lem k p rs room h
