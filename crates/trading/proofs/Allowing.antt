-- The tests of limits and space that code makes of a known deal are those of the rules.
use Rattle.std.proofs.Common.{◌≡◌, ◌+◌, ◌<◌, max, leb, length, ℤ, ◌+ℤ◌, pos, ◌-ℤ◌, neg_ℤ, nat_abs, to_z, of_z, ◌^◌, ◌≤◌, Ok, refl, ap, ◌∙◌, arith}
use mir.Syntax.{w128}
use Rattle.std.proofs.lemmas.Int.{ints}
use Rattle.registers.specs.Held.{rows_of, room_of}
use Rattle.registers.proofs.Always.{within_room, rising}
use Rattle.terms.specs.declared.refusal.Reason.TheVariants.{OverLimit, NoSpace}
use Rattle.terms.specs.Refusals.{plain, about}
use Rattle.ledger.specs.Calls.{Trade, Pricing, trade}
use Rattle.ledger.specs.Numbers.{key_of}
use Rattle.ledger.specs.Book.{Book, family_in, delta_at, delta_of, weight}
use Rattle.ledger.specs.Post.{post, traded}
use Rattle.ledger.specs.Judge.{need, limit}
use Rattle.tables.specs.Model.{model_of}
use Rattle.trading.specs.Deals.{trade_in}
use Rattle.trading.specs.Parts.{allowed}
use Rattle.trading.specs.Found.{stands_before, stands_after}
use Rattle.trading.specs.declared.known.KnownDeal.{KnownDeal}
use Rattle.trading.proofs.Tested.{known_so, buyer_within, seller_within, room_by}

module _ (k : KnownDeal) where
  abbrev b : Book
  b = model_of k.book.tables.now

  abbrev t : Trade
  t = trade_in k.deal

  -- a delta as the code has it, and the same turned
  abbrev kept : ℤ → ℤ
  kept d = to_z w128 (of_z w128 d)

  abbrev turned : ℤ → ℤ
  turned d = to_z w128 (of_z w128 (pos 0 -ℤ kept d))

  pub allowed_is : (p : Pricing) (d : ℤ) → nat_abs d ≤ 2 ^ 66 → d ≡ weight (traded t) (delta_at b (key_of t.series))
      → allowed b t (post b (trade t) p)
      ≡ need (leb (nat_abs (delta_of b t.buyer +ℤ kept d)) (max (limit (family_in b)) (nat_abs (delta_of b t.buyer)))) (about OverLimit t.buyer)
      (need (leb (nat_abs (delta_of b t.seller +ℤ turned d)) (max (limit (family_in b)) (nat_abs (delta_of b t.seller)))) (about OverLimit t.seller)
      (need (leb (length (rows_of k.book.tables.now.positions) + (stands_after k.moves.buyer.after + stands_after k.moves.seller.after)) (room_of k.book.tables.now.positions + (stands_before k.moves.buyer.before + stands_before k.moves.seller.before))) (plain NoSpace)
      (Ok tt)))
  unfolding allowed
  allowed_is p d bound ed =
      let lb : t.buyer < 65536 = omega (arith, k.deal.buyer.most) in
      let ls : t.seller < 65536 = omega (arith, k.deal.seller.most) in
      let κ = known_so b t k.passed in
      let same : kept d ≡ d = omega (arith, ints) in
      let neg : turned d ≡ neg_ℤ d = omega (arith, ints) in
      let x = buyer_within b t p lb ls κ (family_in b) (kept d) refl (same ∙ ed) in
      let y = seller_within b t p lb ls κ (family_in b) (turned d) refl (neg ∙ ap neg_ℤ ed) in
      let z = room_by b t p lb ls κ k.moves.buyer k.moves.seller k.moved.buyer k.moved.seller (rising k.book.tables.now.positions) (within_room k.book.tables.now.accounts) (within_room k.book.tables.now.series) in
      rw (x, y, z) refl
