-- Whether rows fit after one more was put in.
use Rattle.std.proofs.Common.{◌≡◌, ℕ, suc, Bool, true, false, ◌&&◌, ◌||◌, ltb, leb, length, ℤ, is_some, Some, None, Option, sym, refl, ap, ◌∙◌, arith}
use Rattle.std.proofs.lemmas.Bool.{le-leb, true≢false}
use Rattle.registers.specs.Rows.{Rows, lookup, put}
use Rattle.registers.specs.Held.{rows_of, room_of}
use Rattle.registers.specs.Sums.{share}
use Rattle.registers.proofs.Always.{within_room}
use Rattle.registers.proofs.Sums.{length-put}
use Rattle.ledger.specs.Calls.{Series, admit, list, Pricing}
use Rattle.ledger.specs.Numbers.{key_of}
use Rattle.ledger.specs.Rows.{present, change}
use Rattle.ledger.specs.Judge.{fits}
use Rattle.ledger.specs.Post.{post}
use Rattle.tables.specs.declared.tables.Tables.{Tables}
use Rattle.tables.specs.Model.{model_of}

none_shares : {V : Type 0} (k : ℕ) (o : Option V) → is_some o ≡ false → share (λ _ _. 1) k o ≡ 0
none_shares k None e = refl
none_shares k (Some v) e = absurd (true≢false e)

one_more : {V : Type 0} (k : ℕ) (v : V) (rs : Rows V) (room : ℕ) → present rs k ≡ false → leb (length (put k v rs)) room ≡ ltb (length rs) room
one_more k v rs room e =
    let n : length (put k v rs) ≡ suc (length rs) = omega (arith, length-put k v rs, none_shares k (lookup rs k) e) in
    ap (λ (m : ℕ). leb m room) n

and_true : (x y z : Bool) → y ≡ true → z ≡ true → (x && (y && z)) ≡ x
and_true true true true p q = refl
and_true true true false p q = absurd (true≢false (sym q))
and_true true false z p q = absurd (true≢false (sym p))
and_true false y z p q = refl

true_and : (x y z : Bool) → x ≡ true → z ≡ true → (x && (y && z)) ≡ y
true_and true true true p q = refl
true_and true true false p q = absurd (true≢false (sym q))
true_and true false z p q = refl
true_and false y z p q = absurd (true≢false (sym p))

pub admitted_fits : (t : Tables) (a h : ℕ) (p : Pricing) → present (rows_of t.accounts) a ≡ false
    → fits (post (model_of t) (admit a h) p) ≡ ltb (length (rows_of t.accounts)) (room_of t.accounts)
unfolding post change
admitted_fits t a h p e =
    and_true _ _ _ (le-leb _ _ (within_room t.series)) (le-leb _ _ (within_room t.positions)) ∙ one_more a _ (rows_of t.accounts) (room_of t.accounts) e

pub listed_fits : (t : Tables) (x : Series) (v : ℤ) (p : Pricing) → present (rows_of t.series) (key_of x) ≡ false
    → fits (post (model_of t) (list x v) p) ≡ ltb (length (rows_of t.series)) (room_of t.series)
unfolding post change
listed_fits t x v p e =
    true_and _ _ _ (le-leb _ _ (within_room t.accounts)) (le-leb _ _ (within_room t.positions)) ∙ one_more (key_of x) _ (rows_of t.series) (room_of t.series) e

pub or_true : (x : Bool) → (x || true) ≡ true
or_true true = refl
or_true false = refl
