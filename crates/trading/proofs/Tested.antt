-- What passed tests say, and the tests of limits and space in the numbers of the book before.
use Rattle.std.proofs.Common.{◌≡◌, ℕ, ◌+◌, ◌<◌, ◌≤◌, max, Bool, true, false, cond, ◌&&◌, leb, length, ℤ, ◌+ℤ◌, ◌-ℤ◌, neg_ℤ, nat_abs, is_some, Some, None, Ok, sym, refl, ap, ◌∙◌, ap₂, arith}
use Rattle.std.proofs.lemmas.Int.{ints}
use Rattle.std.proofs.lemmas.Bool.{not-true, eqb-false}
use Rattle.registers.specs.Rows.{Rising}
use Rattle.terms.specs.declared.family.Family.{Family}
use Rattle.tariffs.specs.declared.side.Side.{Side}
use Rattle.positions.specs.declared.position.Position.{Position}
use Rattle.positions.specs.Positions.{in_range, counted}
use Rattle.positions.specs.Money.{balance_in}
use Rattle.ledger.specs.Calls.{Trade, Pricing, trade}
use Rattle.ledger.specs.Numbers.{key_of}
use Rattle.ledger.specs.declared.rows.Account.{Account}
use Rattle.ledger.specs.Rows.{at, present}
use Rattle.ledger.specs.Charges.{trade_side}
use Rattle.ledger.specs.Book.{Book, nobody, kind_at, family_in, delta_at, delta_of, weight}
use Rattle.ledger.specs.Post.{post, paid, traded}
use Rattle.ledger.specs.Judge.{limit, within, fits, holder_in}
use Rattle.trading.specs.Parts.{known}
use Rattle.trading.specs.Found.{stands_before, stands_after, bought, sold, cash_in, fee_on, MoveOf, LegBy, LegOf}
use Rattle.trading.specs.declared.found.Move.{Move}
use Rattle.trading.specs.declared.found.Leg.{Leg}
use Rattle.ledger.proofs.Accepted.{need_so}
use Rattle.trading.proofs.Lines.{stands_counted}
use Rattle.trading.proofs.Weights.{buyer_delta, seller_delta, neg_weight}
use Rattle.trading.proofs.Reading.{took}
use Rattle.trading.proofs.Balances.{buyer_holds, seller_holds, room_is}

pub record Known (b : Book) (t : Trade) : Type 0 where
  pub buyer : present b.accounts t.buyer ≡ true
  pub seller : present b.accounts t.seller ≡ true
  pub there : present b.series (key_of t.series) ≡ true
  pub apart : t.buyer ≡ t.seller → ⊥

pub known_so : (b : Book) (t : Trade) → known b t ≡ Ok tt → Known b t
unfolding known
known_so b t e =
    let h1 = need_so _ _ _ e in
    let h2 = need_so _ _ _ h1.1 in
    let h3 = need_so _ _ _ h2.1 in
    let h4 = need_so _ _ _ h3.1 in
    let h5 = need_so _ _ _ h4.1 in
    let h6 = need_so _ _ _ h5.1 in
    record {
      buyer = h1.0;
      seller = h2.0;
      there = h3.0;
      apart = eqb-false t.buyer t.seller (not-true _ h6.0);
    }

module _ (b : Book) (t : Trade) (p : Pricing) (lb : t.buyer < 65536) (ls : t.seller < 65536) (κ : Known b t) where
  abbrev δ : ℤ
  δ = weight (traded t) (delta_at b (key_of t.series))

  pub buyer_within : (f : Family) (d : ℤ) → family_in b ≡ f → d ≡ δ
      → within b (post b (trade t) p) t.buyer ≡ leb (nat_abs (delta_of b t.buyer +ℤ d)) (max (limit f) (nat_abs (delta_of b t.buyer)))
  buyer_within f d ef ed =
      ap₂ (λ (x : ℤ) (y : Family). leb (nat_abs x) (max (limit y) (nat_abs (delta_of b t.buyer))))
      (buyer_delta b t p lb ls κ.apart ∙ ap (λ (x : ℤ). delta_of b t.buyer +ℤ x) (sym ed)) ef

  pub seller_within : (f : Family) (d : ℤ) → family_in b ≡ f → d ≡ neg_ℤ δ
      → within b (post b (trade t) p) t.seller ≡ leb (nat_abs (delta_of b t.seller +ℤ d)) (max (limit f) (nat_abs (delta_of b t.seller)))
  seller_within f d ef ed =
      ap₂ (λ (x : ℤ) (y : Family). leb (nat_abs x) (max (limit y) (nat_abs (delta_of b t.seller))))
      (seller_delta b t p lb ls κ.apart ∙ ap (λ (x : ℤ). delta_of b t.seller +ℤ x) (neg_weight (traded t) (delta_at b (key_of t.series)) ∙ sym ed)) ef

  pub room_by : (m n : Move) → MoveOf b t t.buyer (bought b t) m → MoveOf b t t.seller (sold b t) n
      → Rising 0 b.positions → length b.accounts ≤ b.spaces.accounts → length b.series ≤ b.spaces.series
      → fits (post b (trade t) p) ≡ leb (length b.positions + (stands_after m.after + stands_after n.after)) (b.spaces.positions + (stands_before m.before + stands_before n.before))
  room_by m n hm hn o ra rs =
      room_is b t p lb ls κ.apart o κ.buyer κ.seller ra rs
      ∙ ap₂ (λ (x y : ℕ). leb (length b.positions + x) (b.spaces.positions + y))
      (sym (ap₂ (λ (x y : ℕ). x + y) (ap stands_after hm.after ∙ stands_counted (bought b t)) (ap stands_after hn.after ∙ stands_counted (sold b t))))
      (sym (ap₂ (λ (x y : ℕ). x + y) (ap stands_before hm.before) (ap stands_before hn.before)))

-- ---- amounts
counted_is : (q : Position) → is_some (counted q) ≡ in_range q
counted_is q = ways (in_range q)
  where
    ways : (c : Bool) → is_some (cond c (Some q) None) ≡ c
    ways true = refl
    ways false = refl

module _ (b : Book) (t : Trade) (p : Pricing) (lb : t.buyer < 65536) (ls : t.seller < 65536) (κ : Known b t) (o : Rising 0 b.positions) (m : Move) (e : Account) (x : ℤ) where
  pub buyer_test : MoveOf b t t.buyer (bought b t) m → e ≡ at nobody b.accounts t.buyer → x ≡ cash_in b t -ℤ fee_on b t p t.buyer
      → holder_in (key_of t.series) (post b (trade t) p) t.buyer ≡ (is_some m.after && balance_in (e.cash +ℤ x))
  buyer_test h he hx =
      buyer_holds b t p lb ls κ.apart o
      ∙ sym (ap₂ (λ (c : Bool) (y : ℤ). c && balance_in y) (ap is_some h.after ∙ counted_is (bought b t)) (ap₂ (λ (y : Account) (z : ℤ). y.cash +ℤ z) he hx))

  pub seller_test : MoveOf b t t.seller (sold b t) m → e ≡ at nobody b.accounts t.seller → x ≡ neg_ℤ (cash_in b t) -ℤ fee_on b t p t.seller
      → holder_in (key_of t.series) (post b (trade t) p) t.seller ≡ (is_some m.after && balance_in (e.cash +ℤ x))
  seller_test h he hx =
      seller_holds b t p lb ls κ.apart o
      ∙ sym (ap₂ (λ (c : Bool) (y : ℤ). c && balance_in y) (ap is_some h.after ∙ counted_is (sold b t)) (ap₂ (λ (y : Account) (z : ℤ). y.cash +ℤ z) he hx))

pub leg_is : (b : Book) (t : Trade) (a : ℕ) (side : Side) (e : Account) (m : Move) (x y : ℤ) (q : Position) (l : Leg)
    → LegBy side e m x l → side ≡ trade_side t a (kind_at b a) → MoveOf b t a q m → e ≡ at nobody b.accounts a → x ≡ y → LegOf b t a y q l
leg_is b t a side e m x y q l h hs hm he hx = record {
  side = h.same_side ∙ hs;
  key = h.same_key ∙ hm.key;
  account = h.account ∙ ap₂ paid hx he;
  position = (took (in_range q) l.position q (sym h.position ∙ hm.after)).1;
}

pub exchange_is : (b : Book) (t : Trade) (p : Pricing) → (post b (trade t) p).exchange ≡ b.exchange +ℤ (fee_on b t p t.buyer +ℤ fee_on b t p t.seller)
unfolding post
exchange_is b t p = omega (arith, ints)

pub move_is : (b : Book) (t : Trade) (a : ℕ) (q r : Position) (m : Move) → MoveOf b t a q m → q ≡ r → MoveOf b t a r m
move_is b t a q r m h e = record { key = h.key; before = h.before; after = h.after ∙ ap counted e }
