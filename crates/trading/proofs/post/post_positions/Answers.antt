use Rattle.std.proofs.Common.{◌≡◌, ℕ, ◌≤◌, ◌||◌, length, sym, ap, ◌∙◌, subst, ap₂, cond, arith}
use Rattle.std.proofs.lemmas.Bool.{cond-true, cond-false}
use Rattle.registers.specs.Rows.{Rows, put, without, place_for}
use Rattle.registers.specs.Held.{rows_of, room_of}
use Rattle.registers.proofs.Always.{rising}
use Rattle.positions.specs.declared.position.Position.{Position}
use Rattle.positions.specs.Positions.{is_flat}
use Rattle.ledger.specs.Rows.{placed}
use Rattle.trading.proofs.Lines.{place_for_lem, put_longer, goes_first, placed_fits}
use Rattle.trading.proofs.post.post_positions.Goals as goal

-- what a call of `place` leaves where the row fits
done : (k : ℕ) (p : Position) (rs new : Rows Position) (room : ℕ) → length (placed k p rs) ≤ room
    → new ≡ cond (is_flat p || place_for k rs room) (placed k p rs) rs → new ≡ placed k p rs
done k p rs new room h e = e ∙ cond-true _ _ _ (placed_fits k p rs room h)

pub returns-then-is_flat : goal.returns-then-is_flat
returns-then-is_flat c =
    let b = c.args.buyer.now in
    let s = c.args.seller.now in
    let rs = rows_of c.args.positions.now in
    let room = room_of c.args.positions.now in
    let taken = rows_of c.take.new.self in
    let later = placed b.key b.position rs in
    let gone : placed s.key s.position later ≡ without s.key later = cond-true _ _ _ (sym c.is_flat.ensures ∙ c.if-is_flat.true) in
    let turned : placed s.key s.position later ≡ placed b.key b.position taken
    = gone ∙ goes_first s.key b.key b.position rs (rising c.args.positions.now) c.requires.apart ∙ ap (placed b.key b.position) (sym c.take.ensures.rows) in
    let space : length (placed b.key b.position taken) ≤ room_of c.take.new.self
    = subst (λ (n : ℕ). length (placed b.key b.position taken) ≤ n) (sym c.take.ensures.room) (subst (λ (x : Rows Position). length x ≤ room) turned c.requires.space) in
    record {
      rows = done b.key b.position taken _ _ space c.place.ensures.rows ∙ sym turned;
      room = c.place.ensures.room ∙ c.take.ensures.room;
    }

pub returns : goal.returns
returns c =
    let b = c.args.buyer.now in
    let s = c.args.seller.now in
    let rs = rows_of c.args.positions.now in
    let room = room_of c.args.positions.now in
    let later = placed b.key b.position rs in
    let there : placed s.key s.position later ≡ put s.key s.position later = cond-false _ _ _ (sym c.is_flat.ensures ∙ c.if-is_flat.false) in
    let space : length (put s.key s.position later) ≤ room = subst (λ (x : Rows Position). length x ≤ room) there c.requires.space in
    let longer = put_longer s.key s.position later in
    let first = done b.key b.position rs _ room (omega arith) c.place-2.ensures.rows in
    let fits = ap₂ (λ (x : Rows Position) (n : ℕ). place_for s.key x n) first c.place-2.ensures.room ∙ place_for_lem s.key s.position later room space in
    record {
      rows = c.put.ensures.rows ∙ cond-true _ _ _ fits ∙ ap (put s.key s.position) first ∙ sym there;
      room = c.put.ensures.room ∙ c.place-2.ensures.room;
    }
