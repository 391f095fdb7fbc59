use Rattle.std.proofs.Common.{◌≡◌}
use Rattle.std.specs.List.{zip}
use Rattle.registers.specs.Held.{rows_of}
use Rattle.settling.specs.Payments.{gains, tested}
use Rattle.settling.proofs.lines.test_gains.Given as goal

abbrev pub invariant-loop-key : goal.invariant-loop-key
invariant-loop-key l =
    tested (gains l.gain) (zip l.key-iterator.a.rest.now l.key-iterator.b.rest.now) (rows_of l.accounts)
    ≡ tested (gains l.gain) (zip l.keys l.positions) (rows_of l.accounts)
