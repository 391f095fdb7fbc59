use Rattle.std.proofs.Common.{◌≡◌, false, arith}
use Rattle.std.proofs.lemmas.Grind.{common_steps}
use Rattle.registers.specs.Held.{rows_of}
use Rattle.ledger.specs.Judge as judging
use Rattle.ledger.specs.Numbers.{key_of}
use Rattle.ledger.specs.Rows.{present}
use Rattle.tables.specs.Model.{unpriced, numbered}
use Rattle.entering.proofs.Rooms.{listed_fits}
use Rattle.entering.proofs.listing.listed.Goals as goal

pub returns-then-not-has_place : goal.returns-then-not-has_place
unfolding judging.need
returns-then-not-has_place c =
    let s : present (rows_of c.args.book.now.tables.now.series) (key_of (numbered c.args.numbers)) ≡ false = grind (arith, common_steps) in
    let f = listed_fits c.args.book.now.tables.now (numbered c.args.numbers) c.args.first unpriced s in
    grind (arith, common_steps, f)

pub returns : goal.returns
unfolding judging.need
returns c =
    let s : present (rows_of c.args.book.now.tables.now.series) (key_of (numbered c.args.numbers)) ≡ false = grind (arith, common_steps) in
    let f = listed_fits c.args.book.now.tables.now (numbered c.args.numbers) c.args.first unpriced s in
    (grind (arith, common_steps, f), grind (arith, common_steps))
