use Rattle.std.proofs.Common.{◌≡◌, ◌*◌, ◌^◌, ◌≤◌, length, drop, ◌+ℤ◌, nat_abs}
use Rattle.registers.specs.Held.{rows_of}
use Rattle.registers.specs.Sums.{total_ℤ}
use Rattle.tables.specs.Model.{model_of}
use Rattle.trading.specs.Found.{weighs_on}
use Rattle.trading.proofs.deltas.delta_of.Given as goal

-- what is added up so far and what the rows that are left weigh is the whole
abbrev pub invariant-loop-key : goal.invariant-loop-key
invariant-loop-key l =
    let f = weighs_on (model_of l.book.tables.now) l.account.number in
    let rs = rows_of l.book.tables.now.positions in
    (l.sum +ℤ total_ℤ f (drop (length l.yielded) rs) ≡ total_ℤ f rs) × (nat_abs l.sum ≤ length l.yielded * 2 ^ 66)
