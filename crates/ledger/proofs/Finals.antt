-- A future is settled.
use Rattle.std.proofs.Common.{◌≡◌, ℕ, true, false, cond, eqb, ℤ, pos, ap, ◌∙◌, arith}
use mathlib.Core.Path.{fun_ext}
use lib.IntN.{+ℤ_idl}
use borrow.Author.Differences.{ints}
use Rattle.registers.specs.Rows.{Rows}
use Rattle.terms.specs.declared.kinds.SeriesKind.{SeriesKind}
use Rattle.positions.specs.Money.{payoff}
use Rattle.positions.specs.Keys.{future_key, is_future_key}
use Rattle.ledger.specs.declared.rows.State.{State}
use Rattle.ledger.specs.declared.rows.State.TheVariants.{Done}
use Rattle.ledger.specs.declared.rows.Terms.{Terms}
use Rattle.ledger.specs.Calls.{Series, Pricing, settle}
use Rattle.ledger.specs.Numbers.{series_kind, is_future, key_of}
use Rattle.ledger.specs.Rows.{at, change, in_series}
use Rattle.ledger.specs.Book.{Book, family_in, unlisted, terms_at, state_at, is_trading, is_fixed, is_done, final_of}
use Rattle.ledger.specs.Post.{valued, stated, post_final}
use Rattle.ledger.specs.Ledger.{Journal, final_in, given_in, position_in, fee_by}
use Rattle.ledger.proofs.RowLaws.{rising_change, present_change, each_kept, rising_outside, below_same}
use Rattle.ledger.proofs.CashLaws.{kind_pay_each, rising_pay_each}
use Rattle.ledger.proofs.Worth.{worth_then, holding, moving}
use Rattle.ledger.proofs.Kept.{Good, Kept, on, at_terms}
use Rattle.ledger.proofs.Ends.{moved, cash_moved, total_moved, ended_line, ended_unit, ended_level, ended_none, ended_held}

Fixed-open : (q : State) → is_fixed q ≡ true → is_done q ≡ false
Fixed-open q e = grind arith

Fixed-shut : (q : State) → is_fixed q ≡ true → is_trading q ≡ false
Fixed-shut q e = grind arith

-- a future has no payoff
pays_none : (k : SeriesKind) (strike final : ℕ) → is_future k ≡ true → payoff k strike final ≡ 0
pays_none k strike final e = grind arith

module _ (b : Book) (j : Journal) (x : Series) (p : Pricing) (κ : Kept b j) where
  abbrev n : ℕ
  n = key_of x

  abbrev v : ℤ
  v = pos (final_in j n)

  -- the terms after both changes
  abbrev ends : Terms → Terms
  ends t = stated Done (valued v t)

  abbrev rs : Rows Terms
  rs = change unlisted (stated Done) n (change unlisted (valued v) n b.series)

  at_ends : (s : ℕ) → at unlisted rs s ≡ cond (eqb s n) (ends (terms_at b n)) (terms_at b s)
  at_ends s = grind (arith, at_terms)

  open_before : (s : ℕ) → is_done (at unlisted rs s).state ≡ false → (eqb s n ≡ false) × (is_done (state_at b s) ≡ false)
  open_before s e = grind (arith, at_ends)

  value_ends : (s : ℕ) → (at unlisted rs s).value ≡ cond (eqb s n) v (given_in j s)
  value_ends s = grind (arith, at_ends)

  final_ends : (s : ℕ) → is_future_key s ≡ true → is_trading (at unlisted rs s).state ≡ false → final_of (at unlisted rs s) ≡ final_in j s
  final_ends s f t = grind (arith, at_ends)

  -- and its settlement no fee
  free : is_future (series_kind x) ≡ true → (a : ℕ) → fee_by (settle x) p a j ≡ pos 0
  free e a = rw (pays_none (series_kind x) x.strike (final_in j (future_key x.month)) e)

  pub final_kept : is_future (series_kind x) ≡ true → is_future_key n ≡ true → is_fixed (state_at b n) ≡ true → Kept (post_final b n) (on (settle x) p j)
  final_kept e f d =
      rw (κ.finals n f (Fixed-shut (state_at b n) d))
      (record {
        kinds = λ a. kind_pay_each (moved b j κ n v) a (in_series n b.positions) b.accounts ∙ κ.kinds a;
        values = λ s. rw e (value_ends s);
        finals = final_ends;
        account_order = rising_pay_each (moved b j κ n v) (in_series n b.positions) b.accounts κ.account_order;
        series_order = grind (arith, rising_change);
        position_order = grind (arith, rising_outside);
        rows = each_kept Good _ b.positions κ.rows;
        counts = ended_line b j κ n;
        unit = grind (arith, ended_unit, holding);
        level = ended_level b j κ n;
        options = grind (arith, ended_held, holding, open_before, +ℤ_idl);
        futures = grind (arith, ended_held, holding, open_before, +ℤ_idl, moving);
        still = grind (arith, +ℤ_idl, moving);
        cash = λ a l. rw e
            (cash_moved b j κ n v f (Fixed-open (state_at b n) d) a l
            ∙ omega (arith, ints, free e a, ap (λ (now : ℕ → ℤ). worth_then (family_in b) a now j) (fun_ext (priced e))));
        exchange = grind (arith, below_same, free);
        conserved = omega (arith, ints, κ.conserved, total_moved b j κ n v);
        absent = λ a s l q. ended_none b j κ n (eqb s n) (position_in a s j)
            (κ.absent a s l (present_change unlisted (valued v) n s b.series (present_change unlisted (stated Done) n s (change unlisted (valued v) n b.series) q)));
      })
    where
      priced : is_future (series_kind x) ≡ true → (s : ℕ) → given_in (on (settle x) p j) s ≡ cond (eqb s n) v (given_in j s)
      priced e s = rw e
