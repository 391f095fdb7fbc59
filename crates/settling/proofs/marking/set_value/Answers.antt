use Rattle.std.proofs.Common.{◌≡◌, ℤ, Some, Option, unwrap_or, sym, ap, ◌∙◌, w32, to_z, of_z, rules}
use Rattle.std.proofs.lemmas.Int.{to_z-of_z}
use Rattle.registers.specs.Rows.{lookup, put}
use Rattle.registers.specs.Held.{rows_of}
use Rattle.ledger.specs.declared.rows.Terms.{Terms}
use Rattle.ledger.specs.Rows.{change}
use Rattle.ledger.specs.Book.{unlisted}
use Rattle.ledger.specs.Post.{valued}
use Rattle.settling.proofs.marking.set_value.Goals as goal

pub returns-in-Some : goal.returns-in-Some
unfolding change
returns-in-Some c =
    let rows = rows_of c.args.series.now in
    let t = c.in-Some.terms.now in
    let l : lookup rows c.args.key ≡ Some t = search rules in
    let p : put c.args.key (record { value = to_z w32 (of_z w32 c.args.value); state = t.state }) rows ≡ change unlisted (valued c.args.value) c.args.key rows =
    ap (λ (y : ℤ). put c.args.key (record { value = y; state = t.state }) rows) (to_z-of_z w32 c.args.value c.ranges.value)
    ∙ ap (λ (o : Option Terms). put c.args.key (valued c.args.value (unwrap_or o unlisted)) rows) (sym l) in
    record { rows = search rules; room = search rules }
