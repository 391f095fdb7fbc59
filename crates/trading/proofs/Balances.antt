-- The book after a trade, in the numbers of the book before it.
use Rattle.std.proofs.Common.{◌≡◌, ℕ, ◌+◌, ◌<◌, ◌≤◌, Bool, true, false, cond, ◌&&◌, eqb, leb, length, ℤ, pos, ◌+ℤ◌, ◌-ℤ◌, neg_ℤ, Option, unwrap_or, sym, refl, ap, ◌∙◌, ap₂, arith}
use Rattle.std.proofs.lemmas.Int.{ints}
use Rattle.std.proofs.lemmas.Bool.{eq-eqb, ne_eqb, le-leb}
use Rattle.std.proofs.lemmas.Bool.Decides.{nat_tests}
use Rattle.registers.specs.Rows.{Rows, Rising, lookup, put}
use Rattle.registers.proofs.OneRow.{lookup-put_other}
use Rattle.positions.specs.declared.position.Position.{Position}
use Rattle.positions.specs.Positions.{in_range, dealt}
use Rattle.positions.specs.Money.{balance_in}
use Rattle.positions.specs.Keys.{line_key}
use Rattle.ledger.specs.declared.rows.Account.{Account}
use Rattle.ledger.specs.Calls.{Trade, Pricing, trade}
use Rattle.ledger.specs.Numbers.{key_of, size_of}
use Rattle.ledger.specs.Rows.{at, present, change, placed, revise}
use Rattle.ledger.specs.Book.{Book, nobody, kind_at, cash_at, position_at}
use Rattle.ledger.specs.Post.{post, paid, pay}
use Rattle.ledger.specs.Judge.{fits, holder_in}
use Rattle.ledger.proofs.RowLaws.{rising_revise, present_keep}
use Rattle.ledger.proofs.PositionLaws.{at_line}
use Rattle.ledger.proofs.CashLaws.{cash_pay}
use Rattle.ledger.proofs.Presence.{length-change}
use Rattle.trading.specs.Found.{standing, stands_before, bought, sold, cash_in, fee_on}
use Rattle.trading.proofs.Lines.{keys_apart, both_placed, both_count}

-- ---- two payments
pub both_paid : (a e : ℕ) (x y : ℤ) (cs : Rows Account) → (e ≡ a → ⊥) → pay e y (pay a x cs) ≡ put e (paid y (at nobody cs e)) (put a (paid x (at nobody cs a)) cs)
unfolding pay change
both_paid a e x y cs n =
    ap (λ (z : Account). put e (paid y z) (put a (paid x (at nobody cs a)) cs))
    (ap (λ (o : Option Account). unwrap_or o nobody) (lookup-put_other a e (paid x (at nobody cs a)) cs n))

as_many : (a e : ℕ) (x y : ℤ) (cs : Rows Account) → present cs a ≡ true → present cs e ≡ true → length (pay e y (pay a x cs)) ≡ length cs
unfolding pay
as_many a e x y cs ha he =
    length-change nobody (paid y) e (change nobody (paid x) a cs) (present_keep nobody (paid x) a e cs he)
    ∙ length-change nobody (paid x) a cs ha

module _ (b : Book) (t : Trade) (p : Pricing) (lb : t.buyer < 65536) (ls : t.seller < 65536) (apart : t.buyer ≡ t.seller → ⊥) (o : Rising 0 b.positions) where
  abbrev s : ℕ
  s = key_of t.series

  abbrev f : Position → Position
  f = dealt (kind_at b t.buyer) (size_of t.size) (pos t.count)

  abbrev g : Position → Position
  g = dealt (kind_at b t.seller) (size_of t.size) (neg_ℤ (pos t.count))

  abbrev first : Rows Position
  first = revise f (line_key s t.buyer) b.positions

  other : eqb t.seller t.buyer ≡ false
  other = ne_eqb t.seller t.buyer (λ e. apart (sym e))

  -- ---- positions
  buyer_line : position_at (post b (trade t) p) s t.buyer ≡ bought b t
  unfolding post
  buyer_line =
      at_line g s t.seller s t.buyer first lb ls (rising_revise f (line_key s t.buyer) b.positions o)
      ∙ rw (eq-eqb s s refl, ne_eqb t.buyer t.seller apart)
      (at_line f s t.buyer s t.buyer b.positions lb lb o ∙ rw (eq-eqb s s refl, eq-eqb t.buyer t.buyer refl) refl)

  seller_line : position_at (post b (trade t) p) s t.seller ≡ sold b t
  unfolding post
  seller_line =
      at_line g s t.seller s t.seller first ls ls (rising_revise f (line_key s t.buyer) b.positions o)
      ∙ rw (eq-eqb s s refl, eq-eqb t.seller t.seller refl)
      (ap g (at_line f s t.buyer s t.seller b.positions ls lb o ∙ rw (eq-eqb s s refl, other) refl))

  pub lines_are : (post b (trade t) p).positions ≡ placed (line_key s t.seller) (sold b t) (placed (line_key s t.buyer) (bought b t) b.positions)
  unfolding post
  lines_are = both_placed f g (line_key s t.buyer) (line_key s t.seller) b.positions o (keys_apart s t.seller t.buyer (λ e. apart (sym e)))

  -- ---- cash
  buyer_cash : cash_at (post b (trade t) p) t.buyer ≡ cash_at b t.buyer +ℤ (cash_in b t -ℤ fee_on b t p t.buyer)
  unfolding post
  buyer_cash =
      let x : ℤ = cash_in b t -ℤ fee_on b t p t.buyer in
      let y : ℤ = neg_ℤ (cash_in b t) -ℤ fee_on b t p t.seller in
      cash_pay t.buyer t.seller y (pay t.buyer x b.accounts)
      ∙ ap₂ (λ (u v : ℤ). u +ℤ v)
      (cash_pay t.buyer t.buyer x b.accounts ∙ ap (λ (c : Bool). cash_at b t.buyer +ℤ cond c x (pos 0)) (eq-eqb t.buyer t.buyer refl))
      (ap (λ (c : Bool). cond c y (pos 0)) (ne_eqb t.buyer t.seller apart))
      ∙ omega (arith, ints)

  seller_cash : cash_at (post b (trade t) p) t.seller ≡ cash_at b t.seller +ℤ (neg_ℤ (cash_in b t) -ℤ fee_on b t p t.seller)
  unfolding post
  seller_cash =
      let x : ℤ = cash_in b t -ℤ fee_on b t p t.buyer in
      let y : ℤ = neg_ℤ (cash_in b t) -ℤ fee_on b t p t.seller in
      cash_pay t.seller t.seller y (pay t.buyer x b.accounts)
      ∙ ap₂ (λ (u v : ℤ). u +ℤ v)
      (cash_pay t.seller t.buyer x b.accounts ∙ ap (λ (c : Bool). cash_at b t.seller +ℤ cond c x (pos 0)) other)
      (ap (λ (c : Bool). cond c y (pos 0)) (eq-eqb t.seller t.seller refl))
      ∙ omega (arith, ints)

  -- ---- amounts
  pub buyer_holds : holder_in s (post b (trade t) p) t.buyer ≡ (in_range (bought b t) && balance_in (cash_at b t.buyer +ℤ (cash_in b t -ℤ fee_on b t p t.buyer)))
  buyer_holds = ap₂ (λ (x : Position) (y : ℤ). in_range x && balance_in y) buyer_line buyer_cash

  pub seller_holds : holder_in s (post b (trade t) p) t.seller ≡ (in_range (sold b t) && balance_in (cash_at b t.seller +ℤ (neg_ℤ (cash_in b t) -ℤ fee_on b t p t.seller)))
  seller_holds = ap₂ (λ (x : Position) (y : ℤ). in_range x && balance_in y) seller_line seller_cash

  -- ---- space
  module _ (hb : present b.accounts t.buyer ≡ true) (hs : present b.accounts t.seller ≡ true)
      (ra : length b.accounts ≤ b.spaces.accounts) (rs : length b.series ≤ b.spaces.series) where
    pub room_is : fits (post b (trade t) p) ≡ leb (length b.positions + (standing (bought b t) + standing (sold b t))) (b.spaces.positions + (stands_before (lookup b.positions (line_key s t.buyer)) + stands_before (lookup b.positions (line_key s t.seller))))
    unfolding post
    room_is =
        let x : ℤ = cash_in b t -ℤ fee_on b t p t.buyer in
        let y : ℤ = neg_ℤ (cash_in b t) -ℤ fee_on b t p t.seller in
        let n = both_count f g (line_key s t.buyer) (line_key s t.seller) b.positions o (keys_apart s t.seller t.buyer (λ e. apart (sym e))) in
        let m = as_many t.buyer t.seller x y b.accounts hb hs in
        rw (m, le-leb (length b.accounts) b.spaces.accounts ra, le-leb (length b.series) b.spaces.series rs)
        (same _ _ _ n)
      where
        same : (l d r : ℕ) {m : ℕ} → l + d ≡ m → leb l r ≡ leb m (r + d)
        same l d r e = grind (arith, nat_tests)
