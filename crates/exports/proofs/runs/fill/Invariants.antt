use Rattle.std.proofs.Common.{◌≡◌, take, fold}
use Rattle.registers.specs.Held.{rows_of, room_of}
use Rattle.exports.specs.Runs.{filled_by}
use Rattle.exports.proofs.runs.fill.Given as goal

abbrev pub invariant-loop-key : goal.invariant-loop-key
invariant-loop-key l = (rows_of l.register ≡ fold (filled_by (room_of l.initial.register)) (rows_of l.initial.register) (take l.key-index l.keys)) × (room_of l.register ≡ room_of l.initial.register)
