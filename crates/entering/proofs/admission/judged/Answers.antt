use Rattle.std.proofs.Common.{◌≡◌, false, arith, rules}
use Rattle.std.proofs.lemmas.Grind.{common_steps}
use Rattle.registers.specs.Held.{rows_of}
use Rattle.ledger.specs.Judge as judging
use Rattle.ledger.specs.Rows.{present}
use Rattle.tables.specs.Model.{unpriced}
use Rattle.tables.proofs.Doors.{account_kind}
use Rattle.entering.proofs.Rooms.{admitted_fits}
use Rattle.entering.proofs.admission.judged.Goals as goal

pub returns-then-not-has_place : goal.returns-then-not-has_place
unfolding judging.need
returns-then-not-has_place c =
    let s : present (rows_of c.args.tables.now.accounts) c.args.account ≡ false = search rules in
    let f = admitted_fits c.args.tables.now c.args.account c.args.kind unpriced s in
    grind (arith, common_steps, f)

pub returns : goal.returns
unfolding judging.need
returns c =
    let s : present (rows_of c.args.tables.now.accounts) c.args.account ≡ false = search rules in
    let f = admitted_fits c.args.tables.now c.args.account c.args.kind unpriced s in
    let k = c.in_ok-kind.ensures in
    (grind (arith, common_steps, f), account_kind c.in_ok-kind.kind c.args.kind k.1)
