-- A mark that moves, a series that lapses, and a cash option that is settled.
use Rattle.std.proofs.Common.{◌≡◌, ℕ, ◌<◌, Bool, true, false, cond, eqb, ltb, [], ◌∷◌, ℤ, pos, ◌-ℤ◌, sym, refl, ap, ◌∙◌, arith}
use mathlib.Core.Path.{fun_ext}
use borrow.Author.Differences.{ints}
use Rattle.std.proofs.lemmas.Bool.{ne_eqb, true≢false}
use Rattle.registers.specs.Rows.{Rows}
use Rattle.registers.specs.Sums.{total_ℤ}
use Rattle.terms.specs.declared.family.Family.{Family}
use Rattle.positions.specs.declared.position.Position.{Position}
use Rattle.positions.specs.Positions.{flat, units}
use Rattle.positions.specs.Money.{amount, payoff}
use Rattle.positions.specs.Keys.{future_key, is_future_key, line_key, series_of_key}
use Rattle.ledger.specs.declared.rows.State.TheVariants.{Done}
use Rattle.ledger.specs.declared.rows.Terms.{Terms}
use Rattle.ledger.specs.Calls.{Series, Pricing, mark, exercise, settle}
use Rattle.ledger.specs.Numbers.{series_kind, is_future, key_of}
use Rattle.ledger.specs.Rows.{at, change, in_series, outside}
use Rattle.ledger.specs.Book.{Book, family_in, nobody, unlisted, kind_at, terms_at, value_at, state_at, is_trading, is_done, final_of}
use Rattle.ledger.specs.Charges.{all_bought, lapses_at, fees_of, bought_fees}
use Rattle.ledger.specs.Post.{pay_each, valued, stated, post_end, settle_fees, post_cash, post}
use Rattle.ledger.specs.Ledger.{Journal, final_in, given_in, position_in, fees}
use Rattle.ledger.proofs.Ring.{+-amount, zero_amount}
use Rattle.ledger.proofs.RowLaws.{rising_change, present_change, each_kept, rising_outside, at_outside, total_kept, total_less, below_same, below_+}
use Rattle.ledger.proofs.PositionLaws.{bought_fees_none, units_in, total-outside}
use Rattle.ledger.proofs.CashLaws.{cash_in, brings, kind_pay_each, total-pay_each, rising_pay_each, cash_pay_each, brings_below, fees_bought}
use Rattle.ledger.proofs.KeyLaws.{future_is}
use Rattle.ledger.proofs.Worth.{worth_then, worth_mark}
use Rattle.ledger.proofs.Plain.{trading_open}
use Rattle.ledger.proofs.Kept.{Good, Kept, on, at_terms, done_back, done_other, final_back, idle_cash, idle_fees}

-- ---- sums over the positions in a series
total-amount : (f : Family) (d : ℤ) (rs : Rows Position) → total_ℤ (λ _ l. amount f (units l) d) rs ≡ amount f (total_ℤ (λ _ l. units l) rs) d
unfolding total_ℤ
total-amount f d [] = grind (arith, +-amount, zero_amount)
total-amount f d (r ∷ rs) = grind (arith, +-amount, zero_amount, total-amount f d rs)

-- where the units add up to zero, so does what they are paid
pub paid_level : (f : Family) (d : ℤ) (s : ℕ) (ps : Rows Position) → total_ℤ (units_in s) ps ≡ pos 0 → total_ℤ (λ _ l. amount f (units l) d) (in_series s ps) ≡ pos 0
paid_level f d s ps e =
    total-amount f d (in_series s ps)
    ∙ ap (λ (y : ℤ). amount f y d) (total_kept (λ _ l. units l) (λ k. eqb (series_of_key k) s) ps ∙ e) ∙ zero_amount f d

-- ---- a mark moves
module _ (b : Book) (j : Journal) (κ : Kept b j) (s : ℕ) (v : ℤ) where
  abbrev pub moved : ℕ → Position → ℤ
  moved a l = amount (family_in b) (units l) (v -ℤ value_at b s)

  pub cash_moved : is_future_key s ≡ true → is_done (state_at b s) ≡ false → (a : ℕ) → a < 65536
      → (at nobody (pay_each moved (in_series s b.positions) b.accounts) a).cash ≡ worth_then (family_in b) a (λ k. cond (eqb k s) v (given_in j k)) j -ℤ fees a j
  cash_moved f d a l =
      cash_pay_each moved s a b.positions b.accounts l (zero_amount (family_in b) (v -ℤ value_at b s)) κ.position_order
      ∙ rw (κ.counts a s l, κ.unit a s l, κ.futures a s f d, κ.values s) (omega (arith, ints, κ.cash a l, worth_mark (family_in b) a (given_in j) s v j))

  pub total_moved : total_ℤ cash_in (pay_each moved (in_series s b.positions) b.accounts) ≡ total_ℤ cash_in b.accounts
  total_moved =
      total-pay_each moved (in_series s b.positions) b.accounts
      ∙ omega (arith, ints, paid_level (family_in b) (v -ℤ value_at b s) s b.positions (κ.level s))

pub mark_kept : (b : Book) (j : Journal) (m x : ℕ) (p : Pricing) → is_trading (state_at b (future_key m)) ≡ true → Kept b j → Kept (post b (mark m x) p) (on (mark m x) p j)
unfolding post
mark_kept b j m x p e κ =
    let n : ℕ = future_key m in
    let v : ℤ = pos x in
    let back : (s : ℕ) → is_done (at unlisted (change unlisted (valued v) n b.series) s).state ≡ false → is_done (state_at b s) ≡ false = λ s. done_back (valued v) n s b.series (λ q. q) in
    record {
      kinds = grind (arith, kind_pay_each);
      values = grind (arith, at_terms);
      finals = λ s f t. final s f (eqb s n) refl t;
      account_order = grind (arith, rising_pay_each);
      series_order = grind (arith, rising_change);
      position_order = κ.position_order;
      rows = κ.rows;
      counts = κ.counts;
      unit = κ.unit;
      level = κ.level;
      options = grind arith;
      futures = grind arith;
      still = grind arith;
      cash = λ a l. idle_cash _ (family_in b) a (λ s. cond (eqb s n) v (given_in j s)) j (cash_moved b j κ n v (future_is m) (trading_open (state_at b n) e) a l);
      exchange = idle_fees _ j κ.exchange;
      conserved = grind (arith, total_moved);
      absent = grind (arith, present_change);
    }
  where
    final : (s : ℕ) → is_future_key s ≡ true → (c : Bool) → eqb s (future_key m) ≡ c
        → is_trading (at unlisted (change unlisted (valued (pos x)) (future_key m) b.series) s).state ≡ false
        → final_of (at unlisted (change unlisted (valued (pos x)) (future_key m) b.series) s) ≡ final_in j s
    final s f true q t =
        absurd (true≢false (sym (ap (λ (y : Terms). is_trading y.state) (at_terms (valued (pos x)) (future_key m) s b.series
        ∙ ap (λ (c : Bool). cond c (valued (pos x) (terms_at b (future_key m))) (terms_at b s)) q) ∙ e) ∙ t))
    final s f false q t = final_back (valued (pos x)) (future_key m) s b.series (final_in j s) q (κ.finals s f) t

-- ---- a series ends
module _ (b : Book) (j : Journal) (κ : Kept b j) (n : ℕ) where
  pub ended_line : (a s : ℕ) → a < 65536 → at flat (outside n b.positions) (line_key s a) ≡ cond (eqb s n) flat (position_in a s j)
  ended_line a s l = grind (arith, at_outside)

  pub ended_unit : (c : Bool) (l : Position) (y : ℤ) → units l ≡ y → units (cond c flat l) ≡ cond c (pos 0) y
  ended_unit c l y h = grind arith

  pub ended_level : (s : ℕ) → total_ℤ (units_in s) (outside n b.positions) ≡ pos 0
  ended_level s = grind (arith, total-outside)

  pub ended_none : (c : Bool) (l : Position) → l ≡ flat → cond c flat l ≡ flat
  ended_none c l e = grind arith

  pub ended_held : (c : Bool) (y : ℤ) → c ≡ false → cond c (pos 0) y ≡ y
  ended_held c y e = grind arith

  pub ended_value : (s : ℕ) → value_at (post_end b n) s ≡ value_at b s
  ended_value s = grind (arith, at_terms)

pub lapse_kept : (b : Book) (j : Journal) (x : Series) (level : ℕ) (p : Pricing) → lapses_at x level ≡ true → is_future_key (key_of x) ≡ false → Kept b j
    → Kept (post_end b (key_of x)) (on (exercise x level) p j)
lapse_kept b j x level p e f κ =
    let n : ℕ = key_of x in
    let back : (s : ℕ) → is_done (at unlisted (change unlisted (stated Done) n b.series) s).state ≡ false → is_done (state_at b s) ≡ false = λ s. done_back (stated Done) n s b.series (λ q. absurd (true≢false q)) in
    record {
      kinds = κ.kinds;
      values = λ s. ended_value b j κ n s ∙ κ.values s;
      finals = grind (arith, at_terms);
      account_order = κ.account_order;
      series_order = grind (arith, rising_change);
      position_order = grind (arith, rising_outside);
      rows = each_kept Good _ b.positions κ.rows;
      counts = λ a s l. rw e (ended_line b j κ n a s l);
      unit = grind arith;
      level = ended_level b j κ n;
      options = grind (arith, done_other);
      futures = grind arith;
      still = grind arith;
      cash = grind arith;
      exchange = rw e (idle_fees _ j κ.exchange);
      conserved = κ.conserved;
      absent = grind (arith, present_change);
    }

-- ---- a cash option is settled
module _ (b : Book) (j : Journal) (x : Series) (p : Pricing) (κ : Kept b j) where
  abbrev gain : ℕ
  gain = payoff (series_kind x) x.strike (final_in j (future_key x.month))

  abbrev cash_fee : ℕ → Position → ℤ
  cash_fee a l = settle_fees b p x gain a l

  cash_fee_none : (a : ℕ) → cash_fee a flat ≡ pos 0
  cash_fee_none a = grind (arith, bought_fees_none)

  abbrev gets : ℕ → Position → ℤ
  gets a l = amount (family_in b) (units l) (pos gain) -ℤ cash_fee a l

  -- the fees of the charged sides are those of the positions
  charged_fees : (c : Bool) (rs : Rows Position)
      → fees_of p (cond c (all_bought b (series_kind x) rs) []) ≡ total_ℤ (brings (λ a l. cond c (bought_fees p a (kind_at b a) (series_kind x) l) (pos 0))) rs
  unfolding total_ℤ
  charged_fees true rs = fees_bought b p (series_kind x) rs
  charged_fees false [] = refl
  charged_fees false (r ∷ rs) = omega (arith, ints, charged_fees false rs)

  pub cash_kept : is_future (series_kind x) ≡ false → is_future_key (key_of x) ≡ false → is_done (state_at b (key_of x)) ≡ false → is_trading (state_at b (future_key x.month)) ≡ false
      → Kept (post_cash b x p) (on (settle x) p j)
  cash_kept e f d t =
      rw (κ.finals (future_key x.month) (future_is x.month) t)
      (let n : ℕ = key_of x in
      let back : (s : ℕ) → is_done (at unlisted (change unlisted (stated Done) n b.series) s).state ≡ false → is_done (state_at b s) ≡ false = λ s. done_back (stated Done) n s b.series (λ q. absurd (true≢false q)) in
      record {
        kinds = λ a. kind_pay_each gets a (in_series n b.positions) b.accounts ∙ κ.kinds a;
        values = grind (arith, ended_value);
        finals = λ s i t. final_back (stated Done) n s b.series (final_in j s) (ne_eqb s n (λ q. true≢false (sym i ∙ ap is_future_key q ∙ f))) (κ.finals s i) t;
        account_order = rising_pay_each gets (in_series n b.positions) b.accounts κ.account_order;
        series_order = grind (arith, rising_change);
        position_order = grind (arith, rising_outside);
        rows = each_kept Good _ b.positions κ.rows;
        counts = ended_line b j κ n;
        unit = grind arith;
        level = ended_level b j κ n;
        options = grind (arith, done_other);
        futures = grind arith;
        still = grind arith;
        cash = λ a l. rw e
            (cash_pay_each gets n a b.positions b.accounts l (none_gets a) κ.position_order
            ∙ rw (κ.counts a n l, κ.kinds a, κ.unit a n l, κ.options a n f d) (omega (
              arith,
              ints,
              κ.cash a l,
              ap (λ (now : ℕ → ℤ). worth_then (family_in b) a now j) (fun_ext (unpriced e)),
            )));
        exchange =
            (rw (κ.exchange, charged_fees (ltb 0 gain) (in_series n b.positions), brings_below cash_fee n b.positions cash_fee_none κ.position_order)
            (sym (below_+ 65536 (λ a. fees a j) (λ a. cash_fee a (at flat b.positions (line_key n a))))
            ∙ below_same 65536 _ _ (λ a l. rw (κ.counts a n l, κ.kinds a) (omega (arith, ints)))));
        conserved =
            omega (
              arith,
              ints,
              κ.conserved,
              total-pay_each gets (in_series n b.positions) b.accounts,
              total_less (λ _ l. amount (family_in b) (units l) (pos gain)) (brings cash_fee) (in_series n b.positions),
              paid_level (family_in b) (pos gain) n b.positions (κ.level n),
              charged_fees (ltb 0 gain) (in_series n b.positions),
            );
        absent = grind (arith, present_change);
      })
    where
      unpriced : is_future (series_kind x) ≡ false → (s : ℕ) → given_in (on (settle x) p j) s ≡ given_in j s
      unpriced e s = rw e

      none_gets : (a : ℕ) → gets a flat ≡ pos 0
      none_gets a = omega (arith, ints, cash_fee_none a, zero_amount (family_in b) (pos gain))
