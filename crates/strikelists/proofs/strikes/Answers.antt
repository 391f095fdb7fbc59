use Rattle.std.proofs.Common.{rules}
use Rattle.strikelists.proofs.Words.{one_list, stretch_list}
use Rattle.strikelists.proofs.strikes.Goals as goal

pub returns-in_err-grid-clause-one : goal.returns-in_err-grid-clause-one
returns-in_err-grid-clause-one c = one_list

pub returns-then-out-count-clause-one : goal.returns-then-out-count-clause-one
returns-then-out-count-clause-one c = one_list

pub returns-clause-one : goal.returns-clause-one
returns-clause-one c = one_list

pub returns-then-out-count-clause-answer : goal.returns-then-out-count-clause-answer
returns-then-out-count-clause-answer c =
    let q = c.in_ok-grid.ensures in
    let l = stretch_list _ _ c.nearest-middle.result.strike c.low_end.result c.high_end.result c.nearest-middle.ensures c.low_end.ensures c.high_end.ensures.high in
    let words = rw (q.0.2, q.1) at l in
    search rules

pub returns-clause-answer : goal.returns-clause-answer
returns-clause-answer c =
    let q = c.in_ok-grid.ensures in
    let l = stretch_list _ _ c.nearest-middle.result.strike c.low_end.result c.high_end.result c.nearest-middle.ensures c.low_end.ensures c.high_end.ensures.high in
    let words = rw (q.0.2, q.1) at l in
    search rules
