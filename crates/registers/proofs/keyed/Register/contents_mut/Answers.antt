use Rattle.std.proofs.Common.{sym, refl, ◌∙◌}
use Rattle.registers.specs.Held.{with_contents}
use Rattle.registers.proofs.Always.{count, contents_are}
use Rattle.registers.proofs.Same.{same_facts}
use Rattle.registers.proofs.Spans.{rows_refilled, rows_lent}
use Rattle.registers.proofs.keyed.Register.contents_mut.Goals as goal

pub returns : goal.returns
returns g c =
    let r = c.args.self.now in
    let s = c.as_mut_slice.ensures in (
      (refl, λ w. same_facts r (with_contents r w) _ _ _ _ _ _),
      record {
        follows = tt;
        value = s.value ∙ contents_are r;
        len = s.len ∙ r.even ∙ sym (count r);
        rows = rows_refilled r;
        part = λ a b from to ws p n. rows_lent r a b from to p ws n;
      },
    )
