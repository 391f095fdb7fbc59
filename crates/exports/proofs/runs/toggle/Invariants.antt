use Rattle.std.proofs.Common.{◌≡◌, ℕ, take, fold}
use Rattle.registers.specs.Rows.{Rows}
use Rattle.registers.specs.Held.{rows_of, room_of}
use Rattle.exports.specs.Runs.{toggled_by}
use Rattle.exports.proofs.runs.toggle.Given as goal

abbrev pub invariant-loop-key : goal.invariant-loop-key
invariant-loop-key l = (◌≡◌ {A = Rows ℕ × ℕ} (rows_of l.register, l.sum) (fold (toggled_by (room_of l.initial.register)) (rows_of l.initial.register, 0) (take l.key-index l.keys))) × (room_of l.register ≡ room_of l.initial.register)
