use Rattle.std.proofs.Common.{◌≡◌, ◌^◌, ◌<◌, take}
use Rattle.script.specs.Digits.{value}
use Rattle.script.proofs.digits.Digits.value.Given as goal

abbrev pub invariant-loop-digit : goal.invariant-loop-digit
invariant-loop-digit l = (l.number ≡ value (take l.digit-index l.self.word.now)) × (l.number < 2 ^ 32)
