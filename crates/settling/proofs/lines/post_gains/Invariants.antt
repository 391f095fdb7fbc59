use Rattle.std.proofs.Common.{◌≡◌}
use Rattle.std.specs.List.{zip}
use Rattle.registers.specs.Held.{rows_of, room_of}
use Rattle.settling.specs.Payments.{gains, Ready, pay_all}
use Rattle.settling.proofs.lines.post_gains.Given as goal

abbrev pub invariant-loop-key : goal.invariant-loop-key
invariant-loop-key l =
    let left = zip l.key-iterator.a.rest.now l.key-iterator.b.rest.now in
    (pay_all (gains l.gain) left (rows_of l.accounts) ≡ pay_all (gains l.gain) (zip l.keys l.positions) (rows_of l.initial.accounts))
    × Ready (gains l.gain) left (rows_of l.accounts)
    × (room_of l.accounts ≡ room_of l.initial.accounts)
