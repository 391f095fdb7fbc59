-- Keys beside contents: what the rows are where a content is read, written, put in or taken out at a place.
use Rattle.std.proofs.Common.{◌≡◌, ℕ, zero, suc, ◌<◌, ◌≤◌, true, List, [], ◌∷◌, length, get_or, set, is_some, Some, None, sym, refl, ap, arith}
use Rattle.std.specs.List.{insert, remove, zip}
use Rattle.std.proofs.lemmas.List.{get_or_default}
use Rattle.std.proofs.lemmas.Bool.Decides.{nat_tests}
use Rattle.registers.specs.Keys.{Before}
use Rattle.registers.specs.Rows.{lookup, put, without, below}

later : (k j : ℕ) (ks : List ℕ) (i : ℕ) → Before (j ∷ ks) k (suc i) → Before ks k i
later k j ks i b m l = b (suc m) (omega arith)

-- the next key, if there is one, is greater
abbrev pub Next : List ℕ → ℕ → ℕ → Type 0
Next ks k i = i < length ks → k < get_or ks i 0

module _ {V : Type 0} (k : ℕ) where
  -- the key stands at i
  pub lookup_found : (ks : List ℕ) (vs : List V) (i : ℕ) (x : V) → Before ks k i → length vs ≡ length ks → i < length ks → get_or ks i 0 ≡ k → x ≡ get_or vs i x → Some x ≡ lookup (zip ks vs) k
  unfolding lookup
  lookup_found [] vs i x b n l h e = absurd (omega arith)
  lookup_found (j ∷ ks) [] i x b n l h e = absurd (omega arith)
  lookup_found (j ∷ ks) (v ∷ vs) zero x b n l h e = grind (arith, nat_tests)
  lookup_found (j ∷ ks) (v ∷ vs) (suc i) x b n l h e = let ih = lookup_found ks vs i x (later k j ks i b) (omega arith) (omega arith) h e in grind (arith, nat_tests, b 0)

  pub stands_found : (ks : List ℕ) (vs : List V) (i : ℕ) → Before ks k i → length vs ≡ length ks → i < length ks → get_or ks i 0 ≡ k → is_some (lookup (zip ks vs) k) ≡ true
  stands_found ks [] i b n l h = absurd (omega arith)
  stands_found ks (v ∷ vs) i b n l h = let x : V = get_or (v ∷ vs) i v in ap is_some (sym (lookup_found ks (v ∷ vs) i x b n l h (get_or_default (v ∷ vs) i v x (omega arith))))

  pub put_found : (ks : List ℕ) (vs : List V) (i : ℕ) (x : V) → Before ks k i → length vs ≡ length ks → i < length ks → get_or ks i 0 ≡ k → zip ks (set vs i x) ≡ put k x (zip ks vs)
  unfolding put
  put_found [] vs i x b n l h = absurd (omega arith)
  put_found (j ∷ ks) [] i x b n l h = absurd (omega arith)
  put_found (j ∷ ks) (v ∷ vs) zero x b n l h = grind (arith, nat_tests)
  put_found (j ∷ ks) (v ∷ vs) (suc i) x b n l h = let ih = put_found ks vs i x (later k j ks i b) (omega arith) (omega arith) h in grind (arith, nat_tests, b 0)

  pub without_found : (ks : List ℕ) (vs : List V) (i : ℕ) → Before ks k i → length vs ≡ length ks → i < length ks → get_or ks i 0 ≡ k → zip (remove ks i) (remove vs i) ≡ without k (zip ks vs)
  unfolding without
  without_found [] vs i b n l h = absurd (omega arith)
  without_found (j ∷ ks) [] i b n l h = absurd (omega arith)
  without_found (j ∷ ks) (v ∷ vs) zero b n l h = grind (arith, nat_tests)
  without_found (j ∷ ks) (v ∷ vs) (suc i) b n l h = let ih = without_found ks vs i (later k j ks i b) (omega arith) (omega arith) h in grind (arith, nat_tests, b 0)

  -- it would go to i
  pub lookup_missing : (ks : List ℕ) (vs : List V) (i : ℕ) → Before ks k i → length vs ≡ length ks → i ≤ length ks → Next ks k i → None ≡ lookup (zip ks vs) k
  unfolding lookup
  lookup_missing [] vs i b n l h = refl
  lookup_missing (j ∷ ks) [] i b n l h = refl
  lookup_missing (j ∷ ks) (v ∷ vs) zero b n l h = grind (arith, nat_tests)
  lookup_missing (j ∷ ks) (v ∷ vs) (suc i) b n l h = let ih = lookup_missing ks vs i (later k j ks i b) (omega arith) (omega arith) (λ g. h (omega arith)) in grind (arith, nat_tests, b 0)

  pub put_missing : (ks : List ℕ) (vs : List V) (i : ℕ) (x : V) → Before ks k i → length vs ≡ length ks → i ≤ length ks → Next ks k i → zip (insert ks i k) (insert vs i x) ≡ put k x (zip ks vs)
  unfolding put
  put_missing [] [] zero x b n l h = refl
  put_missing [] [] (suc i) x b n l h = absurd (omega arith)
  put_missing [] (v ∷ vs) i x b n l h = absurd (omega arith)
  put_missing (j ∷ ks) [] i x b n l h = absurd (omega arith)
  put_missing (j ∷ ks) (v ∷ vs) zero x b n l h = grind (arith, nat_tests)
  put_missing (j ∷ ks) (v ∷ vs) (suc i) x b n l h = let ih = put_missing ks vs i x (later k j ks i b) (omega arith) (omega arith) (λ g. h (omega arith)) in grind (arith, nat_tests, b 0)

  -- the rows before the place i have smaller keys, and the next has not
  pub below_at : (ks : List ℕ) (vs : List V) (i : ℕ) → Before ks k i → length vs ≡ length ks → i ≤ length ks → (i < length ks → k ≤ get_or ks i 0) → i ≡ below k (zip ks vs)
  unfolding below
  below_at [] vs i b n l h = omega arith
  below_at (j ∷ ks) [] i b n l h = absurd (omega arith)
  below_at (j ∷ ks) (v ∷ vs) zero b n l h = grind (arith, nat_tests)
  below_at (j ∷ ks) (v ∷ vs) (suc i) b n l h = let ih = below_at ks vs i (later k j ks i b) (omega arith) (omega arith) (λ g. h (omega arith)) in grind (arith, nat_tests, b 0)
