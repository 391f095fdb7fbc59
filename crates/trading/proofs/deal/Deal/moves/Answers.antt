use Rattle.std.proofs.Common.{◌≡◌, ℤ, pos, ◌-ℤ◌, neg_ℤ, sym, ap, arith, w32, to_z, of_z}
use Rattle.std.proofs.lemmas.Int.{ints}
use Rattle.terms.specs.declared.kinds.AccountKind.{AccountKind}
use Rattle.terms.specs.declared.kinds.Size.{Size}
use Rattle.positions.specs.declared.position.Position.{Position}
use Rattle.positions.specs.Positions as positions
use Rattle.ledger.specs.Book.{position_at}
use Rattle.ledger.specs.Numbers.{key_of}
use Rattle.tables.specs.Model.{model_of}
use Rattle.trading.specs.Deals.{trade_in}
use Rattle.trading.specs.Found.{bought, sold}
use Rattle.trading.specs.declared.found.Parties.{Parties}
use Rattle.trading.proofs.Entry.{size_of_lem}
use Rattle.trading.proofs.Tested.{move_is}
use Rattle.trading.proofs.deal.Deal.moves.Goals as goal

-- the same kind, size and number of contracts
changed : (h k : AccountKind) (z y : Size) (m n : ℤ) (p : Position) → h ≡ k → z ≡ y → m ≡ n → positions.dealt h z m p ≡ positions.dealt k y n p
changed h k z y m n p eh ez en = cc

pub returns : goal.returns
returns c =
    let b = model_of c.args.tables.now in
    let d = c.args.self.now in
    let t = trade_in d in
    let most = d.count.most in
    let k = c.count-count.ensures.value in
    let n : to_z w32 c.count-count.result ≡ pos d.count.count = omega (arith, ints) in
    let m : to_z w32 (of_z w32 (pos 0 -ℤ to_z w32 c.count-count.result)) ≡ neg_ℤ (pos d.count.count) = omega (arith, ints) in
    record {
      buyer = move_is b t d.buyer.number _ (bought b t) _ c.position_move.ensures
          (changed _ _ _ _ _ _ (position_at b (key_of t.series) d.buyer.number) (ap (λ (q : Parties). q.buyer.kind) c.requires) (sym (size_of_lem d.size)) n);
      seller = move_is b t d.seller.number _ (sold b t) _ c.position_move-2.ensures
          (changed _ _ _ _ _ _ (position_at b (key_of t.series) d.seller.number) (ap (λ (q : Parties). q.seller.kind) c.requires) (sym (size_of_lem d.size)) m);
    }
