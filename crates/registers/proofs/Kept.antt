-- A register's rows, from what is found among its keys.
use Rattle.std.proofs.Common.{◌≡◌, ℕ, Bool, true, ◌||◌, ltb, List, length, get_or, set, is_some, Some, None, Ok, Err, sym, ap, ◌∙◌, ap₂, subst, arith}
use Rattle.std.specs.List.{insert, remove, zip, slice_get}
use Rattle.registers.specs.Keys.{Found, Split}
use Rattle.registers.specs.Rows.{lookup, put, without, below, place_for, contents_in}
use Rattle.registers.specs.Held.{keys_of, contents_of, rows_of, room_of}
use Rattle.registers.specs.declared.keyed.Register.{Register}
use Rattle.registers.proofs.Always.{level, count_keys, keys_are, rising}
use Rattle.registers.proofs.OneRow.{lookup_at, without_absent}
use Rattle.registers.proofs.Order.{before_found}
use Rattle.registers.proofs.Places.{lookup_found, stands_found, lookup_missing, put_found, put_missing, without_found, below_at}

module _ {X : Type 0} (r : Register X) (k i : ℕ) where
  pub reads : (x : X) → Found (keys_of r) k (Ok i) → x ≡ get_or (contents_of r) i x → Some x ≡ lookup (rows_of r) k
  unfolding rows_of
  reads x f e = lookup_found k (keys_of r) (contents_of r) i x (before_found (keys_of r) k i r.ascends f) (level r) f.0 f.1 e

  pub stands : Found (keys_of r) k (Ok i) → is_some (lookup (rows_of r) k) ≡ true
  unfolding rows_of
  stands f = stands_found k (keys_of r) (contents_of r) i (before_found (keys_of r) k i r.ascends f) (level r) f.0 f.1

  pub place_found : Found (keys_of r) k (Ok i) → place_for k (rows_of r) (room_of r) ≡ true
  place_found f = ap (λ (b : Bool). b || ltb (length (rows_of r)) (room_of r)) (stands f)

  pub misses : Found (keys_of r) k (Err i) → None ≡ lookup (rows_of r) k
  unfolding rows_of
  misses f = lookup_missing k (keys_of r) (contents_of r) i f.1 (level r) f.0 (λ l. f.2 i (omega arith) l)

  pub replaces : (s : Register X) (x : X) → Found (keys_of r) k (Ok i) → keys_of s ≡ keys_of r → contents_of s ≡ set (contents_of r) i x → rows_of s ≡ put k x (rows_of r)
  unfolding rows_of
  replaces s x f e h = ap₂ zip e h ∙ put_found k (keys_of r) (contents_of r) i x (before_found (keys_of r) k i r.ascends f) (level r) f.0 f.1

  pub inserts : (s : Register X) (x : X) → Found (keys_of r) k (Err i) → keys_of s ≡ insert (keys_of r) i k → contents_of s ≡ insert (contents_of r) i x → rows_of s ≡ put k x (rows_of r)
  unfolding rows_of
  inserts s x f e h = ap₂ zip e h ∙ put_missing k (keys_of r) (contents_of r) i x f.1 (level r) f.0 (λ l. f.2 i (omega arith) l)

  pub removes : (s : Register X) → Found (keys_of r) k (Ok i) → keys_of s ≡ remove (keys_of r) i → contents_of s ≡ remove (contents_of r) i → rows_of s ≡ without k (rows_of r)
  unfolding rows_of
  removes s f e h = ap₂ zip e h ∙ without_found k (keys_of r) (contents_of r) i (before_found (keys_of r) k i r.ascends f) (level r) f.0 f.1

  pub bounds : (ks : List ℕ) → ks ≡ keys_of r → Split ks k i → i ≡ below k (rows_of r)
  unfolding rows_of
  bounds ks e h = let s : Split (keys_of r) k i = subst (λ (l : List ℕ). Split l k i) e h in below_at k (keys_of r) (contents_of r) i s.before (level r) s.within (λ l. s.after i (omega arith) l)

  pub holds : Found (keys_of r) k (Ok i) → slice_get (contents_in (rows_of r)) i ≡ lookup (rows_of r) k
  holds f = sym (ap (lookup (rows_of r)) (sym f.1 ∙ ap (λ (ks : List ℕ). get_or ks i 0) (keys_are r)) ∙ lookup_at 0 (rows_of r) i (rising r) (let l = f.0 in omega (arith, count_keys r)))

-- a row taken out
pub ruleset taken = (reads, removes, without_absent)
