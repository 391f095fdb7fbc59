-- A new mark by the rules.
use Rattle.std.proofs.Common.{◌≡◌, ℕ, Bool, true, cond, ◌&&◌, ℤ, pos, ◌+ℤ◌, ◌-ℤ◌, None, Ok, Err, sym, ap, ◌∙◌, arith}
use Rattle.terms.specs.declared.refusal.Reason.TheVariants.{AmountOutOfRange}
use Rattle.registers.specs.Rows.{Rising}
use Rattle.registers.proofs.Always.{rising}
use Rattle.positions.specs.declared.position.Position.{Position}
use Rattle.positions.specs.Positions.{units, in_range}
use Rattle.positions.specs.Money.{amount, balance_in}
use Rattle.positions.specs.Keys.{future_key, account_of_key}
use Rattle.ledger.specs.Calls.{mark}
use Rattle.ledger.specs.Rows.{in_series, Each}
use Rattle.ledger.specs.Book.{Book, family_in, cash_at, value_at, position_at}
use Rattle.ledger.specs.Judge.{Verdict, accepted, unless, judge_opening, judge_mark, judge_call, holder_in, overdrawn}
use Rattle.ledger.specs.Post.{post_mark, post}
use Rattle.ledger.specs.Runs.{judge}
use Rattle.ledger.specs.Sound.{Sound}
use Rattle.ledger.proofs.Ring.{zero_amount}
use Rattle.ledger.proofs.RowLaws.{each_more}
use Rattle.ledger.proofs.CashLaws.{cash_pay_each}
use Rattle.tables.specs.declared.tables.Tables.{Tables}
use Rattle.tables.specs.Model.{model_of, spaces_of, Follows}
use Rattle.tables.proofs.Following.{refused, accepted as posted, judge_is}
use Rattle.ledger.specs.Sound.{Owned}
use Rattle.settling.specs.Payments.{affords, tested}
use Rattle.settling.specs.Marks.{marking, moved}
use Rattle.settling.proofs.Neighbours.{Line, lines}
use Rattle.settling.proofs.Paying.{affords_there, tested_is}

-- what a position gets as the mark of the future s goes to v
abbrev pub difference : Book → ℕ → ℕ → Position → ℤ
difference b s v l = amount (family_in b) (units l) (pos v -ℤ value_at b s)

held : (x y : Bool) → x ≡ true → (x && y) ≡ y
held x y h = ap (λ (c : Bool). c && y) h

-- an account passes after the call where it can take its amount before
pub same_test : (b : Book) (s v : ℕ) → Sound b → Rising 0 b.positions → Owned b
    → Each (λ k l. holder_in s (post_mark b s (pos v)) (account_of_key k) ≡ affords b.accounts (account_of_key k) (difference b s v l)) (in_series s b.positions)
same_test b s v σ o w = each_more (Line b s) _ (in_series s b.positions) one (lines b s o w)
  where
    one : (k : ℕ) (l : Position) → Line b s k l → holder_in s (post_mark b s (pos v)) (account_of_key k) ≡ affords b.accounts (account_of_key k) (difference b s v l)
    one k l h =
        held (in_range (position_at b s (account_of_key k))) _ (σ.counts (account_of_key k) s (omega arith))
        ∙ ap balance_in (cash_pay_each (λ _ l. difference b s v l) s (account_of_key k) b.positions b.accounts (omega arith) (zero_amount (family_in b) (pos v -ℤ value_at b s)) o
        ∙ ap (λ (p : Position). cash_at b (account_of_key k) +ℤ difference b s v p) h.found)
        ∙ sym (affords_there b.accounts (account_of_key k) (difference b s v l) h.owner)

pub same_verdict : (b : Book) (s v : ℕ) → Sound b → Rising 0 b.positions → Owned b
    → tested (difference b s v) (in_series s b.positions) b.accounts ≡ unless (overdrawn b s s (post_mark b s (pos v))) AmountOutOfRange (Ok tt)
same_verdict b s v σ o w = tested_is (difference b s v) (holder_in s (post_mark b s (pos v))) (in_series s b.positions) b.accounts (same_test b s v σ o w)

-- ---- the tests in their order
module _ (t : Tables) (m x : ℕ) (h : judge_opening t.family (spaces_of t) ≡ Ok tt) where
  abbrev b : Book
  b = model_of t

  abbrev s : ℕ
  s = future_key m

  pub judge_mark_lem : judge b (marking m x) ≡ judge_mark b m x (post_mark b s (pos x))
  unfolding judge_call post
  judge_mark_lem = judge_is t (marking m x) h

  pub follows_mark : judge_mark b m x (post_mark b s (pos x)) ≡ unless (overdrawn b s s (post_mark b s (pos x))) AmountOutOfRange (Ok tt)
      → Sound b → Owned b → (u : Tables) (f : Position → ℤ) (r : Verdict) → f ≡ difference b s x
      → r ≡ tested f (in_series s b.positions) b.accounts → model_of u ≡ cond (accepted r) (moved f s x b) b → Follows (marking m x) t u r
  unfolding post
  follows_mark e σ w u f r g a d = ways r (sym (a ∙ ap (λ (f : Position → ℤ). tested f (in_series s b.positions) b.accounts) g ∙ same_verdict b s x σ (rising t.positions) w ∙ sym (judge_mark_lem ∙ e))) d
    where
      done : model_of u ≡ moved f s x b → model_of u ≡ post b (mark m x) (λ _. None)
      done y = y ∙ ap (λ (f : Position → ℤ). moved f s x b) g

      ways : (v : Verdict) → judge b (marking m x) ≡ v → model_of u ≡ cond (accepted v) (moved f s x b) b → Follows (marking m x) t u v
      ways (Ok tt) j y = posted (marking m x) t u j (done y)
      ways (Err n) j y = refused (marking m x) t u n y j
