-- Smaller laws: the offset by itself, and single events.
use Rattle.std.proofs.Common.{◌≡◌, ℕ, ℤ, nat_abs, Err, sym, arith}
use Rattle.std.proofs.lemmas.Bool.{leb-true, le-leb}
use Rattle.terms.specs.declared.kinds.AccountKind.{AccountKind}
use Rattle.terms.specs.declared.refusal.Refusal.{Refusal}
use Rattle.positions.specs.declared.position.Position.{Position}
use Rattle.positions.specs.Positions.{position, less, opposed, offset, settled, closed}
use Rattle.ledger.specs.Calls.{Event}
use Rattle.ledger.specs.Book.{Book}
use Rattle.ledger.specs.Judge.{Verdict}
use Rattle.ledger.specs.Runs.{afterwards}
use Rattle.ledger.specs.Laws.{journal, Largest, Offsets, OffsetLaws, EventLaws}
use Rattle.ledger.proofs.PositionLaws.{settled_units, closed_units}

-- ---- the offset is the largest close
by_signs : (f m : ℤ) → closed (nat_abs (opposed f m)) (position f m) ≡ less (opposed f m) (position f m)
by_signs f m = grind arith

offset_largest : (p : Position) → Largest p (offset p)
offset_largest p =
    let most : ℕ = nat_abs (opposed p.fulls p.minis) in
    record { k = most; is = sym (by_signs p.fulls p.minis); can = le-leb most most (omega arith); largest = λ i e. leb-true i most e }

offsets : (h : AccountKind) (p : Position) → Offsets h p (settled h p)
offsets h p = grind (arith, offset_largest)

pub offset_laws : OffsetLaws
offset_laws = record { largest = offsets; offset_units = settled_units; close_units = closed_units }

-- ---- events
refused : (b : Book) (e : Event) (r : Refusal) (v : Verdict) → v ≡ Err r → afterwards b e v ≡ b
unfolding afterwards
refused b e r v h = grind arith

pub event_laws : EventLaws
unfolding journal
event_laws = grind (arith, refused)
