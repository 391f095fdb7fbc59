-- Which rows there are, and how many.
use Rattle.std.proofs.Common.{◌≡◌, ℕ, suc, ◌≤◌, Bool, true, false, eqb, [], ◌∷◌, length, ℤ, is_some, None, filter, Option, sym, refl, ap, ◌∙◌, arith}
use Rattle.std.proofs.lemmas.Bool.{eqb-false}
use Rattle.registers.specs.Rows.{Rows, Rising, lookup}
use Rattle.registers.specs.Sums.{share}
use Rattle.registers.proofs.OneRow.{lookup-put_same, lookup-put_other}
use Rattle.registers.proofs.Sums.{length-put, length_without}
use Rattle.positions.specs.declared.position.Position.{Position}
use Rattle.ledger.specs.declared.rows.Account.{Account}
use Rattle.positions.specs.Keys.{account_of_key}
use Rattle.ledger.specs.Rows.{at, present, change, revise, first, Each}
use Rattle.ledger.specs.Book.{nobody}
use Rattle.ledger.specs.Post.{paid, pay, pay_each}
use Rattle.ledger.proofs.RowLaws.{present_keep, present_change, each_more}

share_one : {V : Type 0} (k : ℕ) (o : Option V) → is_some o ≡ true → share (λ _ _. 1) k o ≡ 1
share_one k o e = grind arith

pub length-change : {V : Type 0} (d : V) (f : V → V) (k : ℕ) (rs : Rows V) → present rs k ≡ true → length (change d f k rs) ≡ length rs
unfolding change
length-change d f k rs h = omega (arith, length-put k (f (at d rs k)) rs, share_one k (lookup rs k) h)

pub length-revise : (f : Position → Position) (k : ℕ) (ps : Rows Position) → present ps k ≡ true → length (revise f k ps) ≤ length ps
unfolding revise
length-revise f k ps h = grind (arith, length-put, length_without)

-- a row that is there after a change was there before, or is the one that was changed
pub present_from : {V : Type 0} (d : V) (f : V → V) (k s : ℕ) (rs : Rows V) → eqb s k ≡ false → present (change d f k rs) s ≡ true → present rs s ≡ true
unfolding change
present_from d f k s rs n e = sym (ap is_some (lookup-put_other k s (f (at d rs k)) rs (eqb-false s k n))) ∙ e

pub present_own : {V : Type 0} (d : V) (f : V → V) (k : ℕ) (rs : Rows V) → present (change d f k rs) k ≡ true
unfolding change
present_own d f k rs = ap is_some (lookup-put_same k (f (at d rs k)) rs)

-- no row passes the test
pub first_each : {V : Type 0} (q : ℕ → V → Bool) (rs : Rows V) → first q rs ≡ None → Each (λ k v. q k v ≡ false) rs
first_each q [] e = tt
first_each q (r ∷ rs) e = grind (arith, first_each q rs)

-- what holds of each row that is kept holds of each row that passes the test
pub each_back : {V : Type 0} (P : ℕ → V → Type 0) (t : ℕ → Bool) (rs : Rows V) → Each P (filter (λ r. t r.0) rs) → Each (λ k v. t k ≡ true → P k v) rs
each_back P t [] o = tt
each_back P t (r ∷ rs) o = grind (arith, each_back P t rs)

-- each row is found
pub rows_found : {V : Type 0} (d : V) (lo : ℕ) (rs : Rows V) → Rising lo rs → Each (λ k v. (lo ≤ k) × (at d rs k ≡ v)) rs
unfolding lookup
rows_found d lo [] o = tt
rows_found d lo (r ∷ rs) o = grind (arith, each_more, rows_found d (suc r.0) rs o.1)

pub each_found : {V : Type 0} (P : ℕ → V → Type 0) (d : V) (k : ℕ) (rs : Rows V) → Each P rs → (at d rs k ≡ d → ⊥) → P k (at d rs k)
unfolding lookup
each_found P d k [] o h = grind arith
each_found P d k (r ∷ rs) o h = grind (arith, each_found P d k rs o.1)

-- ---- payments
pub present_pay : (c a : ℕ) (x : ℤ) (cs : Rows Account) → present (pay c x cs) a ≡ false → present cs a ≡ false
unfolding pay
present_pay c a x cs e = present_change nobody (paid x) c a cs e

keep_pay : (c a : ℕ) (x : ℤ) (cs : Rows Account) → present cs a ≡ true → present (pay c x cs) a ≡ true
unfolding pay
keep_pay c a x cs e = present_keep nobody (paid x) c a cs e

length-pay : (c : ℕ) (x : ℤ) (cs : Rows Account) → present cs c ≡ true → length (pay c x cs) ≡ length cs
unfolding pay
length-pay c x cs e = length-change nobody (paid x) c cs e

module _ (f : ℕ → Position → ℤ) where
  pub present_pay_each : (a : ℕ) (rs : Rows Position) (cs : Rows Account) → present (pay_each f rs cs) a ≡ false → present cs a ≡ false
  present_pay_each a [] cs e = e
  present_pay_each a (r ∷ rs) cs e = present_pay (account_of_key r.0) a (f (account_of_key r.0) r.1) cs (present_pay_each a rs _ e)

  pub length-pay_each : (rs : Rows Position) (cs : Rows Account) → Each (λ k l. present cs (account_of_key k) ≡ true) rs → length (pay_each f rs cs) ≡ length cs
  length-pay_each [] cs o = refl
  length-pay_each (r ∷ rs) cs o =
      length-pay_each rs _ (each_more (λ k l. present cs (account_of_key k) ≡ true) (λ k l. present (pay (account_of_key r.0) (f (account_of_key r.0) r.1) cs) (account_of_key k) ≡ true) rs
      (λ k l h. keep_pay (account_of_key r.0) (account_of_key k) (f (account_of_key r.0) r.1) cs h) o.1)
      ∙ length-pay (account_of_key r.0) (f (account_of_key r.0) r.1) cs o.0
