use Rattle.std.proofs.Common.{◌≡◌, ◌∙◌, Bool, true, Ok, Err, insert, sym, ap, subst, rules, arith}
use Rattle.std.proofs.lemmas.Bool.{cond-true}
use Rattle.std.proofs.lemmas.Grind.{common_steps}
use Rattle.registers.specs.Keys.{Ascending, Found}
use Rattle.registers.specs.Rows.{place_for, answered}
use Rattle.registers.specs.Held.{keys_of, rows_of, room_of}
use Rattle.registers.proofs.Always.{facts}
use Rattle.registers.proofs.Kept.{replaces, inserts, place_found}
use Rattle.registers.proofs.Order.{ascending_inserted}
use Rattle.registers.proofs.keyed.Register.put.Goals as goal
use Rattle.registers.proofs.keyed.Register.put.Goals.{in-Ok, in-Err}

pub invariant_of-self-in-Err-clause-ascends : goal.invariant_of-self-in-Err-clause-ascends
invariant_of-self-in-Err-clause-ascends g c =
    let r = c.args.self.now in
    let i = c.in-Err.place in
    let f : Found (keys_of r) c.args.key (Err i) = search rules in
    let e : c.insert.new.self.items ≡ insert (keys_of r) i c.args.key = grind (arith, common_steps, facts) in
    subst Ascending (sym e) (ascending_inserted (keys_of r) i c.args.key r.ascends f)

pub returns : goal.returns
returns g c =
    let r = c.args.self.now in
    let k = c.args.key in
    let x = c.args.content in
    elim c.match-find.branch [
      | in-Ok w ↦
          let i = w.in-Ok.place in
          let f : Found (keys_of r) k (Ok i) = search rules in
          let p = place_found r k i f in
          record { answer = sym (ap (λ (b : Bool). answered b x) p); rows = replaces r k i c.match-find.self x f (search rules) (search rules) ∙ sym (cond-true _ _ _ p); room = search rules }
      | in-Err w ↦
          let i = w.in-Err.place in
          let f : Found (keys_of r) k (Err i) = search rules in
          let p : place_for k (rows_of r) (room_of r) ≡ true = search rules in
          record { answer = sym (ap (λ (b : Bool). answered b x) p); rows = inserts r k i c.match-find.self x f (grind (arith, common_steps, facts)) (grind (arith, common_steps, facts)) ∙ sym (cond-true _ _ _ p); room = search rules }
    ]
