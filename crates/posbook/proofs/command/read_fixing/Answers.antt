use Rattle.std.proofs.Common.{ℕ, List, [], ◌∷◌, ◌++◌, Some, None, sym, refl, ap, ◌∙◌}
use Rattle.posbook.proofs.Saying.{read, words_at_line, fixing_behind, words_more, prices_more}
use Rattle.posbook.proofs.command.read_fixing.Goals as goal

pub loop-word-init : goal.loop-word-init
loop-word-init c =
    let p = c.in_ok-close.close in
    (refl, ([], [], refl, tt, ap (λ xs. xs ++ p ∷ []) (sym c.new-samples.ensures.items)))

pub loop-word-preserved : goal.loop-word-preserved
loop-word-preserved c =
    let inv = c.loop-word.invariant in
    let more = c.in-Some.ensures.steps in
    let line = c.next-2.new.self.line in
    let w = c.in-Some.word in
    let p = c.in_ok-close-2.close in
    let here = c.loop-word.words.at in
    let next = c.next-in-loop-word.new.self.at in (
      more.0 ∙ inv.0,
      (
        inv.1.0 ++ w.now ∷ [],
        inv.1.1 ++ p ∷ [],
        words_more line.now inv.1.0 w.now c.next-2.new.self.at here next inv.1.2
            (read line here next (Some w) inv.0 refl more.1),
        prices_more inv.1.0 inv.1.1 w.now p inv.1.3 c.in_ok-close-2.ensures,
        ap (λ xs. xs ++ p ∷ []) (inv.1.4 ∙ sym {A = List ℕ} c.in_ok-push.ensures.items),
      ),
    )

pub returns : goal.returns
returns c =
    let inv = c.loop-word.invariant in
    let one = c.next.ensures.steps in
    let two = c.next-2.ensures.steps in
    let end = c.in_default.ensures.steps in
    let line = c.args.words.line in
    let start = c.args.words.at in
    let a = c.next.new.self.at in
    let b = c.next-2.new.self.at in
    let d = c.loop-word.words.at in
    let e = c.next-in-loop-word.new.self.at in
    let v = c.in_ok-first.first in
    let w = c.in_ok-second.second in
    let same = two.0 ∙ one.0 in
    fixing_behind line.now start a b d e v.now w.now inv.1.0
    c.in_ok-family.family c.in_ok-close.close c.loop-word.close inv.1.1 c.loop-word.samples
    (read line start a (Some v) refl c.in_ok-first.ensures.ok_part one.1)
    (read line a b (Some w) one.0 c.in_ok-second.ensures.ok_part two.1)
    (words_at_line inv.1.0 b d (ap (λ r. r.now) same) inv.1.2)
    (read line d e None (inv.0 ∙ same) refl end.1)
    c.in_ok-family.ensures c.in_ok-close.ensures inv.1.3 inv.1.4
