use Rattle.std.proofs.Common.{◌≡◌, ◌-◌, ◌++◌, length, take, drop, ap, ◌∙◌, arith, rules}
use borrow.Rule.Slice.PartMut.{put_mid}
use Rattle.std.proofs.lemmas.List.{with_items_is, places}
use Rattle.registers.proofs.Cuts.{cut_is}
use Rattle.registers.proofs.cut.cut.Goals as goal

pub returns : goal.returns
returns g c =
    let v = c.args.v.now in
    let a = c.args.from in
    let b = c.args.to in
    let n = c.len-n.result in
    let al = c.as_mut_slice-all.result.now in
    let ws = c.rotate_left.new.self in
    let p = c.requires in
    let en = c.len-n.ensures in
    let el = c.as_mut_slice-all.ensures.len in
    let long : length (put_mid a (n - a) al ws) ≡ v.len = search (rules, places) in
    record {
      items = c.truncate.ensures.items ∙ ap (take (n - (b - a))) (with_items_is v (put_mid a (n - a) al ws) long)
          ∙ cut_is al ws a b n p.forward (omega arith) (omega arith) c.rotate_left.ensures.after
          ∙ ap (λ l. take a l ++ drop b l) c.as_mut_slice-all.ensures.value;
      len = let t = c.truncate.ensures.len in omega arith;
      room = c.truncate.ensures.capacity;
    }
