-- Cash: what a payment, and a payment for each position, do to a balance and to the sum of all; fees over positions.
use Rattle.std.proofs.Common.{◌≡◌, ℕ, ◌<◌, Bool, true, false, cond, ◌&&◌, eqb, [], ◌∷◌, ℤ, pos, ◌+ℤ◌, sym, refl, ap, ◌∙◌, arith}
use Rattle.std.proofs.lemmas.Grind.{common_steps}
use borrow.Author.Differences.{ints}
use Rattle.std.proofs.lemmas.Bool.{eqb-true}
use Rattle.registers.specs.Rows.{Rows, Rising}
use Rattle.registers.specs.Sums.{total_ℤ}
use Rattle.terms.specs.declared.kinds.SeriesKind.{SeriesKind}
use Rattle.positions.specs.declared.position.Position.{Position}
use Rattle.positions.specs.Positions.{flat}
use Rattle.positions.specs.Keys.{line_key, series_of_key, account_of_key}
use Rattle.ledger.specs.declared.rows.Account.{Account}
use Rattle.ledger.specs.Calls.{Pricing}
use Rattle.ledger.specs.Rows.{at, in_series, Each, sum_below}
use Rattle.ledger.specs.Book.{Book, nobody, kind_at}
use Rattle.ledger.specs.Charges.{all_bought, fees_of, bought_fees}
use Rattle.ledger.specs.Post.{paid, pay, pay_each}
use Rattle.ledger.proofs.RowLaws.{at_change, total-change, rising_change, total_kept, total_same, under, under_at, below_same, total-below}
use Rattle.ledger.proofs.PositionLaws.{key_is}

abbrev pub cash_in : ℕ → Account → ℤ
cash_in k c = c.cash

if_cash : (c : Bool) (x : ℤ) (p : Account) → (cond c (paid x p) p).cash ≡ p.cash +ℤ cond c x (pos 0)
if_cash c x p = grind arith

if_kind : (c : Bool) (x : ℤ) (p : Account) → (cond c (paid x p) p).kind ≡ p.kind
if_kind c x p = grind arith

pub cash_pay : (a c : ℕ) (x : ℤ) (cs : Rows Account) → (at nobody (pay c x cs) a).cash ≡ (at nobody cs a).cash +ℤ cond (eqb a c) x (pos 0)
unfolding pay
cash_pay a c x cs = ap (λ (p : Account). p.cash) (at_change nobody (paid x) c a cs) ∙ if_cash (eqb a c) x (at nobody cs a)

pub kind_pay : (a c : ℕ) (x : ℤ) (cs : Rows Account) → (at nobody (pay c x cs) a).kind ≡ (at nobody cs a).kind
unfolding pay
kind_pay a c x cs = ap (λ (p : Account). p.kind) (at_change nobody (paid x) c a cs) ∙ if_kind (eqb a c) x (at nobody cs a)

pub total-pay : (c : ℕ) (x : ℤ) (cs : Rows Account) → total_ℤ cash_in (pay c x cs) ≡ total_ℤ cash_in cs +ℤ x
unfolding pay
total-pay c x cs = omega (arith, ints, total-change cash_in nobody (paid x) c cs refl)

pub rising_pay : (c : ℕ) (x : ℤ) (cs : Rows Account) → Rising 0 cs → Rising 0 (pay c x cs)
unfolding pay
rising_pay c x cs o = rising_change nobody (paid x) c cs o

-- ---- a payment for each position
module _ (f : ℕ → Position → ℤ) where
  -- what a row brings the account a
  abbrev to : ℕ → ℕ → Position → ℤ
  to a k l = cond (eqb a (account_of_key k)) (f (account_of_key k) l) (pos 0)

  -- what a row brings
  abbrev pub brings : ℕ → Position → ℤ
  brings k l = f (account_of_key k) l

  cash_each : (a : ℕ) (rs : Rows Position) (cs : Rows Account) → (at nobody (pay_each f rs cs) a).cash ≡ (at nobody cs a).cash +ℤ total_ℤ (to a) rs
  unfolding total_ℤ
  cash_each a [] cs = omega (arith, ints)
  cash_each a (r ∷ rs) cs = cash_each a rs _ ∙ omega (arith, ints, cash_pay a (account_of_key r.0) (f (account_of_key r.0) r.1) cs)

  pub kind_pay_each : (a : ℕ) (rs : Rows Position) (cs : Rows Account) → (at nobody (pay_each f rs cs) a).kind ≡ (at nobody cs a).kind
  kind_pay_each a [] cs = refl
  kind_pay_each a (r ∷ rs) cs = kind_pay_each a rs _ ∙ kind_pay a (account_of_key r.0) (f (account_of_key r.0) r.1) cs

  pub total-pay_each : (rs : Rows Position) (cs : Rows Account) → total_ℤ cash_in (pay_each f rs cs) ≡ total_ℤ cash_in cs +ℤ total_ℤ brings rs
  unfolding total_ℤ
  total-pay_each [] cs = omega (arith, ints)
  total-pay_each (r ∷ rs) cs = total-pay_each rs _ ∙ omega (arith, ints, total-pay (account_of_key r.0) (f (account_of_key r.0) r.1) cs)

  pub rising_pay_each : (rs : Rows Position) (cs : Rows Account) → Rising 0 cs → Rising 0 (pay_each f rs cs)
  rising_pay_each [] cs o = o
  rising_pay_each (r ∷ rs) cs o = rising_pay_each rs _ (rising_pay (account_of_key r.0) (f (account_of_key r.0) r.1) cs o)

  -- the rows of a series and of one account come to what its own position brings
  one_line : (s a : ℕ) (ps : Rows Position) → a < 65536 → f a flat ≡ pos 0 → Rising 0 ps → total_ℤ (to a) (in_series s ps) ≡ f a (at flat ps (line_key s a))
  one_line s a ps h z o =
      total_kept (to a) (λ k. eqb (series_of_key k) s) ps
      ∙ total_same (λ k l. cond (eqb (series_of_key k) s) (to a k l) (pos 0)) (under (f a) (line_key s a)) ps (λ k l. one k l)
      ∙ under_at (f a) flat (line_key s a) 0 ps z o
    where
      both : (c e : Bool) (y z : ℤ) → (e ≡ true → y ≡ z) → cond c (cond e y (pos 0)) (pos 0) ≡ cond (c && e) z (pos 0)
      both true true y z g = g refl
      both true false y z g = refl
      both false e y z g = refl

      one : (k : ℕ) (l : Position) → cond (eqb (series_of_key k) s) (to a k l) (pos 0) ≡ under (f a) (line_key s a) k l
      one k l =
          both (eqb (series_of_key k) s) (eqb a (account_of_key k)) (f (account_of_key k) l) (f a l) (λ e. ap (λ (i : ℕ). f i l) (sym (eqb-true a (account_of_key k) e)))
          ∙ ap (λ (b : Bool). cond b (f a l) (pos 0)) (sym (key_is k s a h))

  pub cash_pay_each : (s a : ℕ) (ps : Rows Position) (cs : Rows Account) → a < 65536 → f a flat ≡ pos 0 → Rising 0 ps
      → (at nobody (pay_each f (in_series s ps) cs) a).cash ≡ (at nobody cs a).cash +ℤ f a (at flat ps (line_key s a))
  cash_pay_each s a ps cs h z o = cash_each a (in_series s ps) cs ∙ ap (λ (y : ℤ). (at nobody cs a).cash +ℤ y) (one_line s a ps h z o)

  -- what all positions in a series bring, account by account
  pub brings_below : (s : ℕ) (ps : Rows Position) → ((a : ℕ) → f a flat ≡ pos 0) → Rising 0 ps → total_ℤ brings (in_series s ps) ≡ sum_below 65536 (λ a. f a (at flat ps (line_key s a)))
  brings_below s ps z o =
      total-below 65536 account_of_key brings (in_series s ps) (every (in_series s ps))
      ∙ below_same 65536 _ _ (λ a h. one_line s a ps h (z a) o)
    where
      every : (rs : Rows Position) → Each (λ k l. account_of_key k < 65536) rs
      every [] = tt
      every (r ∷ rs) = (omega arith, every rs)

-- ---- fees
-- the fees of all that was bought in these positions
pub fees_bought : (b : Book) (p : Pricing) (k : SeriesKind) (rs : Rows Position)
    → fees_of p (all_bought b k rs) ≡ total_ℤ (brings (λ a l. bought_fees p a (kind_at b a) k l)) rs
unfolding total_ℤ bought_fees
fees_bought b p k [] = refl
fees_bought b p k (r ∷ rs) = grind (arith, common_steps, fees_bought b p k rs)
