-- Amounts tested against the balances before are tested against those after: the accounts of a series' positions are several.
use Rattle.std.proofs.Common.{◌≡◌, ℕ, suc, ◌<◌, ◌≤◌, Bool, true, false, cond, not, [], ◌∷◌, ℤ, ◌+ℤ◌, is_some, Some, None, Ok, Option, unwrap_or, sym, refl, ap, ◌∙◌, arith}
use Rattle.std.specs.Option.{option_map}
use Rattle.std.proofs.lemmas.Bool.{false≢true}
use Rattle.terms.specs.declared.refusal.Reason.TheVariants.{AmountOutOfRange}
use Rattle.terms.specs.Refusals.{about}
use Rattle.registers.specs.Rows.{Rows, Rising, lookup}
use Rattle.registers.proofs.OneRow.{lookup-put_other}
use Rattle.positions.specs.Money.{balance_in}
use Rattle.ledger.specs.declared.rows.Account.{Account}
use Rattle.positions.specs.Keys.{series_of_key, account_of_key}
use Rattle.ledger.specs.Rows.{at, present, change, first, Each}
use Rattle.ledger.specs.Book.{nobody}
use Rattle.ledger.specs.Judge.{need, unless}
use Rattle.ledger.specs.Post.{pay}
use Rattle.settling.specs.Payments.{takes, affords, tested, Ready}

pub affords_there : (cs : Rows Account) (a : ℕ) (x : ℤ) → present cs a ≡ true → affords cs a x ≡ balance_in ((at nobody cs a).cash +ℤ x)
affords_there cs a x h = ways (lookup cs a) h
  where
    ways : (o : Option Account) → is_some o ≡ true → takes o x ≡ balance_in ((unwrap_or o nobody).cash +ℤ x)
    ways None e = absurd (false≢true e)
    ways (Some c) e = refl

affords_other : (cs : Rows Account) (a c : ℕ) (x y : ℤ) → (a ≡ c → ⊥) → affords (pay c x cs) a y ≡ affords cs a y
unfolding pay change
affords_other cs a c x y h = ap (λ (o : Option Account). takes o y) (lookup-put_other c a _ cs h)

module _ {X : Type 0} (f : X → ℤ) where
  -- a payment to an earlier account leaves the later ones
  later : (s k lo : ℕ) (x : ℤ) (rs : Rows X) (cs : Rows Account) → series_of_key k ≡ s → k < lo → Rising lo rs → Each (λ k v. series_of_key k ≡ s) rs
      → Each (λ k v. affords cs (account_of_key k) (f v) ≡ true) rs → Each (λ j v. affords (pay (account_of_key k) x cs) (account_of_key j) (f v) ≡ true) rs
  later s k lo x [] cs e l o i h = tt
  later s k lo x (r ∷ rs) cs e l o i h = (
    affords_other cs (account_of_key r.0) (account_of_key k) x (f r.1) (apart r.0 i.0 o.0) ∙ h.0,
    later s k (suc r.0) x rs cs e (omega (arith, o.0)) o.1 i.1 h.1,
  )
    where
      apart : (j : ℕ) → series_of_key j ≡ s → lo ≤ j → account_of_key j ≡ account_of_key k → ⊥
      apart j q g p = omega arith

  pub ready : (s lo : ℕ) (rs : Rows X) (cs : Rows Account) → Rising lo rs → Each (λ k v. series_of_key k ≡ s) rs
      → Each (λ k v. affords cs (account_of_key k) (f v) ≡ true) rs → Ready f rs cs
  ready s lo [] cs o i h = tt
  ready s lo (r ∷ rs) cs o i h =
      (h.0, ready s (suc r.0) rs _ o.1 i.1 (later s r.0 (suc r.0) (f r.1) rs cs i.0 (omega arith) o.1 i.1 h.1))

  -- what passes is afforded
  pub all_afforded : (rs : Rows X) (cs : Rows Account) → tested f rs cs ≡ Ok tt → Each (λ k v. affords cs (account_of_key k) (f v) ≡ true) rs
  unfolding need
  all_afforded [] cs e = tt
  all_afforded (r ∷ rs) cs e = ways (affords cs (account_of_key r.0) (f r.1)) refl e (all_afforded rs cs)
    where
      ways : (c : Bool) → affords cs (account_of_key r.0) (f r.1) ≡ c → need c (about AmountOutOfRange (account_of_key r.0)) (tested f rs cs) ≡ Ok tt
          → (tested f rs cs ≡ Ok tt → Each (λ k v. affords cs (account_of_key k) (f v) ≡ true) rs)
          → (affords cs (account_of_key r.0) (f r.1) ≡ true) × Each (λ k v. affords cs (account_of_key k) (f v) ≡ true) rs
      ways true q h ih = (q, ih h)
      ways false q h ih = absurd (let z : ◌≡◌ {A = ℕ} 0 1 = cc in omega arith)

  -- the first that fails one test is the first that fails the other
  pub tested_is : (test : ℕ → Bool) (rs : Rows X) (cs : Rows Account) → Each (λ k v. test (account_of_key k) ≡ affords cs (account_of_key k) (f v)) rs
      → tested f rs cs ≡ unless (option_map account_of_key (first (λ k _. not (test (account_of_key k))) rs)) AmountOutOfRange (Ok tt)
  unfolding need unless
  tested_is test [] cs o = refl
  tested_is test (r ∷ rs) cs o =
      ap (λ (c : Bool). need c (about AmountOutOfRange (account_of_key r.0)) (tested f rs cs)) (sym o.0) ∙ ways (test (account_of_key r.0)) (tested_is test rs cs o.1)
    where
      ways : (c : Bool) → tested f rs cs ≡ unless (option_map account_of_key (first (λ k _. not (test (account_of_key k))) rs)) AmountOutOfRange (Ok tt)
          → need c (about AmountOutOfRange (account_of_key r.0)) (tested f rs cs)
          ≡ unless (option_map account_of_key (cond (not c) (Some r.0) (first (λ k _. not (test (account_of_key k))) rs))) AmountOutOfRange (Ok tt)
      ways true ih = ih
      ways false ih = refl
