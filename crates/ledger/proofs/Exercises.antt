-- A series on the future is exercised.
use Rattle.std.proofs.Common.{◌≡◌, ℕ, ◌*◌, ◌<◌, Bool, true, false, cond, eqb, ℤ, pos, ◌+ℤ◌, ◌-ℤ◌, ◌*ℤ◌, neg_ℤ, sym, refl, ap, ◌∙◌, subst, arith}
use lib.IntN.{+ℤ_idl}
use borrow.Author.Differences.{ints}
use Rattle.std.proofs.lemmas.Bool.{eqb-true, ne_eqb, true≢false}
use Rattle.registers.specs.Rows.{Rows, Rising}
use Rattle.registers.specs.Sums.{total_ℤ}
use Rattle.terms.specs.declared.family.Family.{Family}
use Rattle.terms.specs.declared.kinds.SeriesKind.{SeriesKind}
use Rattle.terms.specs.declared.kinds.SeriesKind.TheVariants.{Future, CallOnFuture, PutOnFuture}
use Rattle.terms.specs.declared.kinds.SeriesKind.TheVariants as kinds
use Rattle.positions.specs.declared.position.Position.{Position}
use Rattle.positions.specs.Positions.{flat, units}
use Rattle.positions.specs.Money.{amount}
use Rattle.positions.specs.Keys.{future_key, is_future_key, line_key, series_of_key}
use Rattle.ledger.specs.declared.rows.State.TheVariants.{Done}
use Rattle.ledger.specs.Calls.{Series, Pricing, exercise}
use Rattle.ledger.specs.Numbers.{kind_of, series_kind, on_future, key_of, kind_of_key}
use Rattle.ledger.specs.Rows.{at, present, change, in_series, outside, Each}
use Rattle.ledger.specs.Book.{Book, family_in, unlisted, kind_at, state_at, is_done}
use Rattle.ledger.specs.Charges.{lapses_at, bought_fees}
use Rattle.ledger.specs.Post.{stated, turned, assigned, move_each, post_exercise}
use Rattle.ledger.specs.Ledger.{Journal, kind_in, final_in, given_in, position_in, net, fees}
use Rattle.ledger.proofs.Ring.{amount_neg, zero_amount}
use Rattle.ledger.proofs.RowLaws.{rising_change, present_change, each_at, each_more, each_kept, rising_outside, at_outside, total_kept, total_same, total_each, total_less, total_neg, below_same, below_+}
use Rattle.ledger.proofs.PositionLaws.{assigned_units, assigned_none, bought_fees_none, series_of_key_lem, units_in, total-outside}
use Rattle.ledger.proofs.Moves.{rising_move_each, at_move_each, total-move_each, each_move_each}
use Rattle.ledger.proofs.CashLaws.{brings, kind_pay_each, total-pay_each, rising_pay_each, cash_pay_each, brings_below, fees_bought}
use Rattle.ledger.proofs.KeyLaws.{InRange, not_both, key_is_future, future_is, key_kind}
use Rattle.ledger.proofs.Worth.{holding, moving}
use Rattle.ledger.proofs.Kept.{Good, Kept, on, done_back, done_other, final_back}
use Rattle.ledger.proofs.Ends.{paid_level, ended_value}

turned-five : (k : SeriesKind) (n : ℤ) → pos 5 *ℤ turned k n ≡ turned k (pos 5 *ℤ n)
turned-five k n = grind arith

turned_in : (f : Family) (k : SeriesKind) (n p : ℤ) → turned k (amount f n p) ≡ amount f n (turned k p)
turned_in f k n p = grind (arith, amount_neg)

pub turned_zero : (k : SeriesKind) → turned k (pos 0) ≡ pos 0
turned_zero k = grind arith

-- a sum that is zero stays so when each term is turned
turned-total : (k : SeriesKind) (w : ℕ → Position → ℤ) (rs : Rows Position) → total_ℤ w rs ≡ pos 0 → total_ℤ (λ i l. turned k (w i l)) rs ≡ pos 0
turned-total Future w rs e = e
turned-total kinds.Call w rs e = e
turned-total kinds.Put w rs e = e
turned-total CallOnFuture w rs e = e
turned-total PutOnFuture w rs e = total_neg w rs ∙ omega (arith, ints)

module _ (b : Book) (j : Journal) (x : Series) (level : ℕ) (p : Pricing) (κ : Kept b j) (r : InRange x) (high : on_future (series_kind x) ≡ true) where
  abbrev n : ℕ
  n = key_of x

  abbrev m : ℕ
  m = future_key x.month

  abbrev fee : ℕ → Position → ℤ
  fee a l = bought_fees p a (kind_at b a) (series_kind x) l

  abbrev step : ℤ
  step = given_in j m -ℤ pos (100 * x.strike)

  abbrev gets : ℕ → Position → ℤ
  gets a l = turned (series_kind x) (amount (family_in b) (units l) step) -ℤ fee a l

  abbrev takes : ℕ → Position → Position → Position
  takes a l = assigned (kind_at b a) (turned (series_kind x) l.fulls)

  option : is_future_key n ≡ false
  option = key_is_future x r ∙ not_both (series_kind x) high

  kind_high : on_future (kind_of (kind_of_key n)) ≡ true
  kind_high = ap (λ (i : ℕ). on_future (kind_of i)) (key_kind x r) ∙ high

  -- no minis
  row_plain : (k : ℕ) (l : Position) → Good k l → series_of_key k ≡ n → l.minis ≡ pos 0
  row_plain k l g e = g.minis (subst (λ (i : ℕ). on_future (kind_of (kind_of_key i)) ≡ true) (sym e) kind_high)

  line_plain : (a : ℕ) → a < 65536 → (position_in a n j).minis ≡ pos 0
  line_plain a l =
      ap (λ (y : Position). y.minis) (sym (κ.counts a n l))
      ∙ each_at (λ i y. series_of_key i ≡ n → y.minis ≡ pos 0) flat (line_key n a) b.positions (λ _. refl) (each_more Good (λ i y. series_of_key i ≡ n → y.minis ≡ pos 0) b.positions row_plain κ.rows) (series_of_key_lem n a l)

  same : (a : ℕ) (l : Position) → takes a flat l ≡ l
  same a l = ap (λ (i : ℤ). assigned (kind_at b a) i l) (turned_zero (series_kind x)) ∙ assigned_none (kind_at b a) l

  took : Rows Position
  took = move_each m takes (in_series n b.positions) b.positions

  took_order : Rising 0 took
  unfolding took
  took_order = rising_move_each n m takes (in_series n b.positions) b.positions κ.position_order

  line_is : (a s : ℕ) → a < 65536 → at flat (outside n took) (line_key s a)
      ≡ cond (eqb s n) flat (cond (eqb s m) (assigned (kind_in j a) (turned (series_kind x) (position_in a n j).fulls) (position_in a s j)) (position_in a s j))
  unfolding took
  line_is a s l = grind (arith, at_move_each, at_outside, same, took_order)

  unit_is : (a s : ℕ) → a < 65536 → units (cond (eqb s n) flat (cond (eqb s m) (assigned (kind_in j a) (turned (series_kind x) (position_in a n j).fulls) (position_in a s j)) (position_in a s j)))
      ≡ cond (eqb s n) (pos 0) (cond (eqb s m) (holding a s j +ℤ turned (series_kind x) (holding a n j)) (holding a s j))
  unit_is a s l = ways (eqb s n) (eqb s m)
    where
      own : pos 5 *ℤ turned (series_kind x) (position_in a n j).fulls ≡ turned (series_kind x) (holding a n j)
      own =
          let h : pos 5 *ℤ (position_in a n j).fulls ≡ holding a n j = omega (arith, ints, line_plain a l, κ.unit a n l) in
          turned-five (series_kind x) (position_in a n j).fulls ∙ ap (turned (series_kind x)) h

      ways : (y z : Bool) → units (cond y flat (cond z (assigned (kind_in j a) (turned (series_kind x) (position_in a n j).fulls) (position_in a s j)) (position_in a s j))) ≡ cond y (pos 0) (cond z (holding a s j +ℤ turned (series_kind x) (holding a n j)) (holding a s j))
      ways true z = refl
      ways false true = assigned_units (kind_in j a) (turned (series_kind x) (position_in a n j).fulls) (position_in a s j) ∙ omega (arith, ints, own, κ.unit a s l)
      ways false false = κ.unit a s l

  -- what comes to the future is even
  plain_sum : total_ℤ (λ _ l. pos 5 *ℤ turned (series_kind x) l.fulls) (in_series n b.positions) ≡ pos 0
  plain_sum =
      total_kept (λ _ l. pos 5 *ℤ turned (series_kind x) l.fulls) (λ k. eqb (series_of_key k) n) b.positions
      ∙ total_each Good (λ k l. cond (eqb (series_of_key k) n) (pos 5 *ℤ turned (series_kind x) l.fulls) (pos 0)) (λ k l. turned (series_kind x) (units_in n k l)) b.positions
      (λ k l g. one k l g (eqb (series_of_key k) n) refl) κ.rows
      ∙ turned-total (series_kind x) (units_in n) b.positions (κ.level n)
    where
      one : (k : ℕ) (l : Position) → Good k l → (c : Bool) → eqb (series_of_key k) n ≡ c → cond c (pos 5 *ℤ turned (series_kind x) l.fulls) (pos 0) ≡ turned (series_kind x) (cond c (units l) (pos 0))
      one k l g true e =
          let h : pos 5 *ℤ l.fulls ≡ units l = omega (arith, ints, row_plain k l g (eqb-true (series_of_key k) n e)) in
          turned-five (series_kind x) l.fulls ∙ ap (turned (series_kind x)) h
      one k l g false e = sym (turned_zero (series_kind x))

  level_is : (s : ℕ) → total_ℤ (units_in s) (outside n took) ≡ pos 0
  unfolding took
  level_is s =
      total-outside s n took
      ∙ ways (eqb s n) (eqb m s)
      (total-move_each n m takes (λ l. pos 5 *ℤ turned (series_kind x) l.fulls) (λ a l y. assigned_units (kind_at b a) (turned (series_kind x) l.fulls) y) s (in_series n b.positions) b.positions)
    where
      ways : (y z : Bool) → total_ℤ (units_in s) took ≡ total_ℤ (units_in s) b.positions +ℤ cond z (total_ℤ (λ _ l. pos 5 *ℤ turned (series_kind x) l.fulls) (in_series n b.positions)) (pos 0)
          → cond y (pos 0) (total_ℤ (units_in s) took) ≡ pos 0
      ways true z h = refl
      ways false true h = omega (arith, ints, h, κ.level s, plain_sum)
      ways false false h = omega (arith, ints, h, κ.level s)

  rows_are : Each Good (outside n took)
  unfolding took
  rows_are = grind (arith, each_kept, each_move_each)

  fee_none : (a : ℕ) → fee a flat ≡ pos 0
  fee_none a = bought_fees_none p a (kind_at b a) (series_kind x)

  gets_none : (a : ℕ) → gets a flat ≡ pos 0
  gets_none a = omega (arith, ints, fee_none a, ap (turned (series_kind x)) (zero_amount (family_in b) step), turned_zero (series_kind x))

  total_gets : total_ℤ (brings gets) (in_series n b.positions) ≡ neg_ℤ (total_ℤ (brings fee) (in_series n b.positions))
  total_gets =
      total_less (λ _ l. turned (series_kind x) (amount (family_in b) (units l) step)) (brings fee) (in_series n b.positions)
      ∙ omega (
        arith,
        ints,
        total_same (λ _ l. turned (series_kind x) (amount (family_in b) (units l) step)) (λ _ l. amount (family_in b) (units l) (turned (series_kind x) step)) (in_series n b.positions)
            (λ k l. turned_in (family_in b) (series_kind x) (units l) step),
        paid_level (family_in b) (turned (series_kind x) step) n b.positions (κ.level n),
      )

  pub exercise_kept : lapses_at x level ≡ false → is_done (state_at b n) ≡ false → present b.series m ≡ true → Kept (post_exercise b x p) (on (exercise x level) p j)
  unfolding took
  exercise_kept e d w =
      rw (κ.values m)
      (let back : (s : ℕ) → is_done (at unlisted (change unlisted (stated Done) n b.series) s).state ≡ false → is_done (state_at b s) ≡ false = λ s. done_back (stated Done) n s b.series (λ q. absurd (true≢false q)) in
      record {
        kinds = λ a. kind_pay_each gets a (in_series n b.positions) b.accounts ∙ κ.kinds a;
        values = λ s. ended_value b j κ n s ∙ κ.values s;
        finals = λ s i t. final_back (stated Done) n s b.series (final_in j s) (ne_eqb s n (λ q. true≢false (sym i ∙ ap is_future_key q ∙ option))) (κ.finals s i) t;
        account_order = rising_pay_each gets (in_series n b.positions) b.accounts κ.account_order;
        series_order = grind (arith, rising_change);
        position_order = rising_outside n took took_order;
        rows = rows_are;
        counts = λ a s l. rw e (line_is a s l);
        unit = λ a s l. rw e (unit_is a s l);
        level = level_is;
        options = grind (arith, done_other, future_is, +ℤ_idl);
        futures = λ a s i q. rw e (future_held a s (eqb s n) (eqb s m) (done_other n s b.series q) (κ.futures a s i (back s q)));
        still = grind (arith, future_is);
        cash = λ a l. rw e
            (cash_pay_each gets n a b.positions b.accounts l (gets_none a) κ.position_order
            ∙ rw (κ.counts a n l, κ.kinds a, κ.unit a n l, κ.options a n option d) (omega (arith, ints, κ.cash a l)));
        exchange = rw e
            (rw (κ.exchange, fees_bought b p (series_kind x) (in_series n b.positions), brings_below fee n b.positions fee_none κ.position_order)
            (sym (below_+ 65536 (λ a. fees a j) (λ a. fee a (at flat b.positions (line_key n a))))
            ∙ below_same 65536 _ _ (λ a l. rw (κ.counts a n l, κ.kinds a) (omega (arith, ints)))));
        conserved = omega (arith, ints, κ.conserved, total-pay_each gets (in_series n b.positions) b.accounts, total_gets, fees_bought b p (series_kind x) (in_series n b.positions));
        absent = grind (arith, present_change);
      })
    where
      other_held : (a s : ℕ) → eqb s n ≡ false → eqb s m ≡ false → cond (eqb s n) (pos 0) (cond (eqb s m) (holding a s j +ℤ turned (series_kind x) (holding a n j)) (holding a s j)) ≡ holding a s j
      other_held a s f g = rw (f, g)

      future_held : (a s : ℕ) (y z : Bool) → y ≡ false → holding a s j ≡ moving a s j
          → cond y (pos 0) (cond z (holding a s j +ℤ turned (series_kind x) (holding a n j)) (holding a s j)) ≡ cond z (turned (series_kind x) (net a n j)) (pos 0) +ℤ moving a s j
      future_held a s true z f h = absurd (true≢false f)
      future_held a s false true f h = rw (κ.options a n option d) (omega (arith, ints))
      future_held a s false false f h = omega (arith, ints)

      none_still : (a s : ℕ) (y z : Bool) → eqb s m ≡ z → present b.series s ≡ false → position_in a s j ≡ flat
          → cond y flat (cond z (assigned (kind_in j a) (turned (series_kind x) (position_in a n j).fulls) (position_in a s j)) (position_in a s j)) ≡ flat
      none_still a s true z f g h = refl
      none_still a s false true f g h = absurd (true≢false (sym w ∙ ap (present b.series) (sym (eqb-true s m f)) ∙ g))
      none_still a s false false f g h = h
