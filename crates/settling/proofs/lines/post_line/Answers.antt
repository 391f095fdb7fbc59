use Rattle.std.proofs.Common.{◌≡◌, Some, w64, SFits, rules}
use Rattle.registers.specs.Rows.{lookup}
use Rattle.registers.specs.Held.{rows_of}
use Rattle.positions.specs.Keys.{account_of_key}
use Rattle.settling.proofs.Balances.{paid_is}
use Rattle.settling.proofs.lines.post_line.Goals as goal

pub returns-in-Some : goal.returns-in-Some
returns-in-Some c =
    let rows = rows_of c.args.accounts.now in
    let f : SFits w64 c.in-Some.account.now.cash = search rules in
    let l : lookup rows (account_of_key c.args.key) ≡ Some c.in-Some.account.now = search rules in
    let p = paid_is rows (account_of_key c.args.key) c.args.amount c.in-Some.account.now f c.ranges.amount l c.requires in
    record { rows = search rules; room = search rules }
