-- The tests of counts and balances that code makes of a known deal are those of the rules.
use Rattle.std.proofs.Common.{◌≡◌, ℕ, ◌+◌, ◌<◌, ◌≤◌, ◌^◌, ◌&&◌, ℤ, pos, ◌+ℤ◌, ◌-ℤ◌, neg_ℤ, nat_abs, is_some, Ok, refl, ap, arith, w64, SFits, to_z, of_z}
use Rattle.std.proofs.lemmas.Int.{ints}
use Rattle.registers.proofs.Always.{rising}
use Rattle.terms.specs.declared.refusal.Reason.TheVariants.{AmountOutOfRange}
use Rattle.terms.specs.Refusals.{plain, about}
use Rattle.positions.specs.Money.{balance_in}
use Rattle.ledger.specs.declared.rows.Account.{Account}
use Rattle.ledger.specs.Calls.{Trade, Pricing, trade}
use Rattle.ledger.specs.Charges.{trade_side}
use Rattle.ledger.specs.Book.{Book}
use Rattle.ledger.specs.Post.{post}
use Rattle.ledger.specs.Judge.{need}
use Rattle.tables.specs.Model.{model_of}
use Rattle.trading.specs.Deals.{trade_in}
use Rattle.trading.specs.Parts.{afforded}
use Rattle.trading.specs.Found.{bought, sold, cash_in, fee_on, LegBy, LegOf}
use Rattle.trading.specs.declared.found.Leg.{Leg}
use Rattle.trading.specs.declared.found.Parties.{Parties}
use Rattle.trading.specs.declared.known.KnownDeal.{KnownDeal}
use Rattle.trading.proofs.Tested.{known_so, buyer_test, seller_test, leg_is, exchange_is}

-- amounts as the code has them: what the buyer gets, the seller gets, and the exchange has then
abbrev kept : ℤ → ℤ
kept z = to_z w64 (of_z w64 z)

abbrev buys : ℤ → ℕ → ℤ
buys cash fee = kept (kept cash -ℤ to_z w64 fee)

abbrev sells : ℤ → ℕ → ℤ
sells cash fee = kept (kept (pos 0 -ℤ kept cash) -ℤ to_z w64 fee)

abbrev earns : ℤ → ℕ → ℕ → ℤ
earns exchange f g = kept exchange +ℤ to_z w64 (f + g)

module _ (k : KnownDeal) (p : Pricing) (cash : ℤ) (f g : ℕ) where
  abbrev b : Book
  b = model_of k.book.tables.now

  abbrev t : Trade
  t = trade_in k.deal

  -- the cash is the rules', and the fees are what the pricing says
  pub record Priced : Type 0 where
    pub same : cash ≡ cash_in b t
    pub bound : nat_abs cash ≤ 2 ^ 56
    pub few : f + g ≤ 20000000000
    pub buyer : fee_on b t p t.buyer ≡ pos f
    pub seller : fee_on b t p t.seller ≡ pos g

  module _ (π : Priced) where
    bought_at : buys cash f ≡ cash_in b t -ℤ fee_on b t p t.buyer
    bought_at = omega (arith, ints)

    sold_at : sells cash g ≡ neg_ℤ (cash_in b t) -ℤ fee_on b t p t.seller
    sold_at = omega (arith, ints)

    pub earned : SFits w64 b.exchange → earns b.exchange f g ≡ b.exchange +ℤ (fee_on b t p t.buyer +ℤ fee_on b t p t.seller)
    earned fe = omega (arith, ints)

    pub afforded_is : afforded t (post b (trade t) p)
        ≡ need (is_some k.moves.buyer.after && balance_in (k.parties.buyer.cash +ℤ buys cash f)) (about AmountOutOfRange t.buyer)
        (need (is_some k.moves.seller.after && balance_in (k.parties.seller.cash +ℤ sells cash g)) (about AmountOutOfRange t.seller)
        (need (balance_in (b.exchange +ℤ (fee_on b t p t.buyer +ℤ fee_on b t p t.seller))) (plain AmountOutOfRange)
        (Ok tt)))
    unfolding afforded
    afforded_is =
        let lb : t.buyer < 65536 = omega (arith, k.deal.buyer.most) in
        let ls : t.seller < 65536 = omega (arith, k.deal.seller.most) in
        let κ = known_so b t k.passed in
        let o = rising k.book.tables.now.positions in
        let x = buyer_test b t p lb ls κ o k.moves.buyer k.parties.buyer _ k.moved.buyer (ap (λ (q : Parties). q.buyer) k.found) bought_at in
        let y = seller_test b t p lb ls κ o k.moves.seller k.parties.seller _ k.moved.seller (ap (λ (q : Parties). q.seller) k.found) sold_at in
        let z = ap balance_in (exchange_is b t p) in
        rw (x, y, z) refl

    pub buyer_leg : (l : Leg) → LegBy (trade_side t t.buyer k.parties.buyer.kind) k.parties.buyer k.moves.buyer (buys cash f) l
        → LegOf b t t.buyer (cash_in b t -ℤ fee_on b t p t.buyer) (bought b t) l
    buyer_leg l h =
        let e = ap (λ (q : Parties). q.buyer) k.found in
        leg_is b t t.buyer _ k.parties.buyer k.moves.buyer _ _ _ l h (ap (λ (a : Account). trade_side t t.buyer a.kind) e) k.moved.buyer e bought_at

    pub seller_leg : (l : Leg) → LegBy (trade_side t t.seller k.parties.seller.kind) k.parties.seller k.moves.seller (sells cash g) l
        → LegOf b t t.seller (neg_ℤ (cash_in b t) -ℤ fee_on b t p t.seller) (sold b t) l
    seller_leg l h =
        let e = ap (λ (q : Parties). q.seller) k.found in
        leg_is b t t.seller _ k.parties.seller k.moves.seller _ _ _ l h (ap (λ (a : Account). trade_side t t.seller a.kind) e) k.moved.seller e sold_at
