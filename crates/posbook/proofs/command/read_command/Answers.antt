use Rattle.std.proofs.Common.{◌≡◌, codes, ap, rules}
use Rattle.std.proofs.lemmas.Grind.{same_number_lists}
use Rattle.posbook.proofs.Saying.{says_made}
use Rattle.posbook.proofs.command.read_command.Goals as goal

pub returns-in-Some-fixing : goal.returns-in-Some-fixing
returns-in-Some-fixing c =
    let word = c.in-Some-fixing.field-0.now in
    let one = c.in-Some-fixing.ensures.steps in
    let named : c.in-Some-fixing.field-0.now ≡ codes "fixing" = search (rules, same_number_lists) in
    says_made c.read_fixing.result c.args.line.now c.new-words.result.line.now c.next.new.self.line.now (codes "fixing")
    word c.new-words.result.at c.next.new.self.at
    c.new-words.ensures.line (ap (λ r. r.now) one.0) c.new-words.ensures.at named one.1 c.read_fixing.ensures

pub returns-in-Some-strikes : goal.returns-in-Some-strikes
returns-in-Some-strikes c =
    let word = c.in-Some-strikes.field-0.now in
    let one = c.in-Some-strikes.ensures.steps in
    let named : c.in-Some-strikes.field-0.now ≡ codes "strikes" = search (rules, same_number_lists) in
    says_made c.read_strikes.result c.args.line.now c.new-words.result.line.now c.next.new.self.line.now (codes "strikes")
    word c.new-words.result.at c.next.new.self.at
    c.new-words.ensures.line (ap (λ r. r.now) one.0) c.new-words.ensures.at named one.1 c.read_strikes.ensures
