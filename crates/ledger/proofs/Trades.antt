-- A trade.
use Rattle.std.proofs.Common.{◌≡◌, ℕ, ◌<◌, Bool, true, false, cond, ◌&&◌, eqb, ℤ, pos, ◌+ℤ◌, ◌-ℤ◌, neg_ℤ, sym, refl, ap, ◌∙◌, subst, arith}
use Rattle.std.proofs.lemmas.Grind.{common_steps}
use borrow.Author.Differences.{ints}
use Rattle.std.proofs.lemmas.Bool.{eqb-true}
use Rattle.registers.specs.Rows.{Rows, Rising}
use Rattle.registers.specs.Sums.{total_ℤ}
use Rattle.terms.specs.declared.kinds.AccountKind.{AccountKind}
use Rattle.terms.specs.declared.kinds.Size.{Size}
use Rattle.positions.specs.declared.position.Position.{Position}
use Rattle.positions.specs.Positions.{flat, units, dealt}
use Rattle.positions.specs.Keys.{is_future_key, line_key, series_of_key}
use Rattle.ledger.specs.Calls.{Trade, Pricing, trade}
use Rattle.ledger.specs.Numbers.{kind_of, size_of, series_kind, is_future, on_future, key_of, kind_of_key, all_series}
use Rattle.ledger.specs.Rows.{at, present, revise, Each, sum_below}
use Rattle.ledger.specs.Book.{Book, family_in, kind_at, cash_at}
use Rattle.ledger.specs.Charges.{trade_side, fee_of}
use Rattle.ledger.specs.Post.{pay, lots, traded, cash_of, post}
use Rattle.ledger.specs.Ledger.{Journal, kind_in, given_in, dealt_if, position_in, net_of, fees}
use Rattle.ledger.proofs.RowLaws.{each_at, each_more, rising_revise, each_revise, below_+, below_one}
use Rattle.ledger.proofs.PositionLaws.{dealt_units, lots_neg, dealt_minis, series_of_key_lem, at_line, units_in, total_line}
use Rattle.ledger.proofs.CashLaws.{cash_pay, kind_pay, total-pay, rising_pay}
use Rattle.ledger.proofs.KeyLaws.{key_kind, key_inside}
use Rattle.ledger.proofs.Worth.{worth_then, holding, trade_gain}
use Rattle.ledger.proofs.Kept.{Good, NoMinis, Kept, on}
use Rattle.ledger.proofs.Accepted.{TradePassed}

module _ (b : Book) (j : Journal) (t : Trade) (p : Pricing) (after : Book) (δ : TradePassed b t after) (κ : Kept b j) where
  abbrev n : ℕ
  n = key_of t.series

  abbrev q : ℤ
  q = pos t.count

  -- the positions
  lined : (h k i : AccountKind) (x y z : Bool) (l : Position) → (y ≡ true → k ≡ h) → (z ≡ true → i ≡ h)
      → cond (x && y) (dealt k (size_of t.size) (neg_ℤ q) (cond (x && z) (dealt i (size_of t.size) q l) l)) (cond (x && z) (dealt i (size_of t.size) q l) l)
      ≡ cond x (dealt_if y h (size_of t.size) (neg_ℤ q) (dealt_if z h (size_of t.size) q l)) l
  lined h k i x y z l e f = grind arith

  first : Rows Position
  first = revise (dealt (kind_at b t.buyer) (size_of t.size) q) (line_key n t.buyer) b.positions

  second : Rows Position
  second = revise (dealt (kind_at b t.seller) (size_of t.size) (neg_ℤ q)) (line_key n t.seller) first

  first_order : Rising 0 first
  unfolding first
  first_order = rising_revise (dealt (kind_at b t.buyer) (size_of t.size) q) (line_key n t.buyer) b.positions κ.position_order

  line_is : (a s : ℕ) → a < 65536 → at flat second (line_key s a)
      ≡ cond (eqb s n) (dealt_if (eqb a t.seller) (kind_in j a) (size_of t.size) (neg_ℤ q) (dealt_if (eqb a t.buyer) (kind_in j a) (size_of t.size) q (position_in a s j))) (position_in a s j)
  unfolding second first
  line_is a s l = grind (arith, at_line, eqb-true, first, first_order, lined)

  if_dealt : (c : Bool) (h : AccountKind) (m : ℤ) (l : Position) → units (dealt_if c h (size_of t.size) m l) ≡ units l +ℤ cond c (lots (size_of t.size) m) (pos 0)
  if_dealt c h m l = grind (arith, common_steps, dealt_units)

  units_are : (h : AccountKind) (x y z : Bool) (l : Position) (v : ℤ) → units l ≡ v
      → units (cond x (dealt_if y h (size_of t.size) (neg_ℤ q) (dealt_if z h (size_of t.size) q l)) l) ≡ cond x (cond z (traded t) (pos 0) -ℤ cond y (traded t) (pos 0)) (pos 0) +ℤ v
  units_are h true y z l v e =
      if_dealt y h (neg_ℤ q) _ ∙ ap (λ (m : ℤ). m +ℤ cond y (lots (size_of t.size) (neg_ℤ q)) (pos 0)) (if_dealt z h q l) ∙ sum y
    where
      sum : (y : Bool) → (units l +ℤ cond z (lots (size_of t.size) q) (pos 0)) +ℤ cond y (lots (size_of t.size) (neg_ℤ q)) (pos 0) ≡ (cond z (traded t) (pos 0) -ℤ cond y (traded t) (pos 0)) +ℤ v
      sum true = rw (lots_neg (size_of t.size) q) (omega (arith, ints))
      sum false = omega (arith, ints)
  units_are h false y z l v e = omega (arith, ints)

  level_is : (s : ℕ) → total_ℤ (units_in s) second ≡ pos 0
  unfolding second first
  level_is s =
      total_line (dealt (kind_at b t.seller) (size_of t.size) (neg_ℤ q)) (lots (size_of t.size) (neg_ℤ q)) (line_key n t.seller) s first (dealt_units (kind_at b t.seller) (size_of t.size) (neg_ℤ q))
      ∙ ap (λ (m : ℤ). m +ℤ cond (eqb (series_of_key (line_key n t.seller)) s) (lots (size_of t.size) (neg_ℤ q)) (pos 0))
      (total_line (dealt (kind_at b t.buyer) (size_of t.size) q) (lots (size_of t.size) q) (line_key n t.buyer) s b.positions (dealt_units (kind_at b t.buyer) (size_of t.size) q))
      ∙ rw (series_of_key_lem n t.seller δ.seller, series_of_key_lem n t.buyer δ.buyer, lots_neg (size_of t.size) q, κ.level s) (ways (eqb n s))
    where
      ways : (c : Bool) → (pos 0 +ℤ cond c (lots (size_of t.size) q) (pos 0)) +ℤ cond c (neg_ℤ (lots (size_of t.size) q)) (pos 0) ≡ pos 0
      ways true = omega (arith, ints)
      ways false = omega (arith, ints)

  good : (a : ℕ) (h : AccountKind) (m : ℤ) (ls : Rows Position) → a < 65536 → Each Good ls → Each Good (revise (dealt h (size_of t.size) m) (line_key n a) ls)
  good a h m ls l o =
      each_revise (dealt h (size_of t.size) m) (line_key n a) ls Good o (λ g. record {
        held = g;
        minis = λ i.
            let k : on_future (series_kind t.series) ≡ true = subst (λ (y : ℕ). on_future (kind_of y) ≡ true) (ap kind_of_key (series_of_key_lem n a l) ∙ key_kind t.series δ.range) i in
            subst (λ (z : Size). (dealt h z m (at flat ls (line_key n a))).minis ≡ pos 0) (sym (δ.size k))
            (dealt_minis h m _ (each_at NoMinis flat (line_key n a) ls (λ _. refl) (each_more Good NoMinis ls (λ _ _ y. y.minis) o) i));
        inside = subst (λ (i : ℕ). i < all_series) (sym (series_of_key_lem n a l)) (key_inside t.series δ.range);
      })

  -- the money
  f : ℤ
  f = fee_of (p (trade_side t t.buyer (kind_in j t.buyer)))

  g : ℤ
  g = fee_of (p (trade_side t t.seller (kind_in j t.seller)))

  x : ℤ
  x = cash_of (family_in b) (given_in j n) t

  cash_is : (y z : Bool) (u w d : ℤ) → u ≡ w -ℤ d
      → (u +ℤ cond z (x -ℤ f) (pos 0)) +ℤ cond y (neg_ℤ x -ℤ g) (pos 0) ≡ ((cond z x (pos 0) -ℤ cond y x (pos 0)) +ℤ w) -ℤ ((cond z f (pos 0) +ℤ cond y g (pos 0)) +ℤ d)
  cash_is true true u w d e = omega (arith, ints)
  cash_is true false u w d e = omega (arith, ints)
  cash_is false true u w d e = omega (arith, ints)
  cash_is false false u w d e = omega (arith, ints)

  fees_are : b.exchange +ℤ (f +ℤ (g +ℤ pos 0)) ≡ sum_below 65536 (λ a. (cond (eqb a t.buyer) f (pos 0) +ℤ cond (eqb a t.seller) g (pos 0)) +ℤ fees a j)
  fees_are =
      omega (
        arith,
        ints,
        κ.exchange,
        below_+ 65536 (λ a. cond (eqb a t.buyer) f (pos 0) +ℤ cond (eqb a t.seller) g (pos 0)) (λ a. fees a j),
        below_+ 65536 (λ a. cond (eqb a t.buyer) f (pos 0)) (λ a. cond (eqb a t.seller) g (pos 0)),
        below_one 65536 t.buyer f δ.buyer,
        below_one 65536 t.seller g δ.seller,
      )

  future_moves : (s : ℕ) (v c : ℤ) → is_future_key s ≡ true → cond (eqb s n) v (pos 0) ≡ cond (is_future (series_kind t.series)) (cond (eqb s n) v (pos 0)) (pos 0)
  future_moves s v c e = grind arith

  option_stays : (s : ℕ) (v : ℤ) → is_future_key s ≡ false → cond (is_future (series_kind t.series)) (cond (eqb s n) v (pos 0)) (pos 0) ≡ pos 0
  option_stays s v e = grind arith

  none_still : (s : ℕ) (l m : Position) → present b.series s ≡ false → m ≡ flat → cond (eqb s n) l m ≡ flat
  none_still s l m h e = grind arith

  pub trade_kept : Kept (post b (trade t) p) (on (trade t) p j)
  unfolding post first second x f g
  trade_kept =
      record {
        kinds = λ a. kind_pay a t.seller _ _ ∙ kind_pay a t.buyer _ b.accounts ∙ κ.kinds a;
        values = κ.values;
        finals = κ.finals;
        account_order = rising_pay t.seller _ _ (rising_pay t.buyer _ b.accounts κ.account_order);
        series_order = κ.series_order;
        position_order = rising_revise (dealt (kind_at b t.seller) (size_of t.size) (neg_ℤ q)) (line_key n t.seller) first first_order;
        rows = good t.seller (kind_at b t.seller) (neg_ℤ q) first δ.seller (good t.buyer (kind_at b t.buyer) q b.positions δ.buyer κ.rows);
        counts = line_is;
        unit = λ a s l. units_are (kind_in j a) (eqb s n) (eqb a t.seller) (eqb a t.buyer) (position_in a s j) (holding a s j) (κ.unit a s l);
        level = level_is;
        options = λ a s i d. ap (λ (y : ℤ). cond (eqb s n) (net_of a t) (pos 0) +ℤ y) (κ.options a s i d);
        futures = λ a s i d. omega (arith, ints, κ.futures a s i d, future_moves s (net_of a t) (pos 0) i);
        still = λ a s i. omega (arith, ints, κ.still a s i, option_stays s (net_of a t) i);
        cash = λ a l.
            rw (κ.kinds t.buyer, κ.kinds t.seller, κ.values n)
            (cash_pay a t.seller (neg_ℤ x -ℤ g) (pay t.buyer (x -ℤ f) b.accounts)
            ∙ ap (λ (y : ℤ). y +ℤ cond (eqb a t.seller) (neg_ℤ x -ℤ g) (pos 0)) (cash_pay a t.buyer (x -ℤ f) b.accounts)
            ∙ cash_is (eqb a t.seller) (eqb a t.buyer) (cash_at b a) (worth_then (family_in b) a (given_in j) j) (fees a j) (κ.cash a l)
            ∙ ap (λ (y : ℤ). (y +ℤ worth_then (family_in b) a (given_in j) j) -ℤ ((cond (eqb a t.buyer) f (pos 0) +ℤ cond (eqb a t.seller) g (pos 0)) +ℤ fees a j))
            (sym (trade_gain t (family_in b) a (given_in j) j)));
        exchange = rw (κ.kinds t.buyer, κ.kinds t.seller) fees_are;
        conserved =
            rw (κ.kinds t.buyer, κ.kinds t.seller, κ.values n)
            (omega (arith, ints, κ.conserved, total-pay t.seller (neg_ℤ x -ℤ g) (pay t.buyer (x -ℤ f) b.accounts), total-pay t.buyer (x -ℤ f) b.accounts));
        absent = λ a s l h. none_still s _ (position_in a s j) h (κ.absent a s l h);
      }
