use Rattle.std.proofs.Common.{◌≡◌, List, [], ◌∷◌, ◌++◌, length, set, Some, None, refl, ap, sym, ◌∙◌, arith, rules}
use Rattle.std.proofs.lemmas.List.{length-set, take-append-le, take_all}
use Rattle.std.specs.List.{refill}
use Rattle.tariffs.specs.declared.entries.Entry.{Entry}
use Rattle.tariffs.specs.Entries.{entry, entry_of, placed_in, left, entries}
use Rattle.tariffs.proofs.Remaining.{left_placed}
use Rattle.tariffs.proofs.entries.Entries.set.Goals as goal

pub returns-in-Some : goal.returns-in-Some
returns-in-Some c =
    let t = c.args.self.now in
    let es = t.list.items in
    let i = c.in-Some.i in
    let n = c.args.left in
    let x = entry c.args.account n in
    let lent = c.deref_mut.result.now in
    let same : c.number.result ≡ c.args.account = search rules in
    let ws : List Entry = set lent i (entry c.number.result n) in
    let long : length es ≡ length ws = sym (length-set lent i _ ∙ ap length c.deref_mut.ensures.value) in
    let places : refill (length es) es ws ≡ placed_in es (entry_of t c.args.account) x =
    take-append-le (length es) ws _ (omega arith) ∙ take_all (length es) ws (omega arith)
    ∙ ap (λ es. set es i (entry c.number.result n)) c.deref_mut.ensures.value
    ∙ ap (λ a. set es i (entry a n)) same
    ∙ ap (λ p. placed_in es p x) c.in-Some.ensures.value in
    record {
      range = search rules;
      room = λ full. let e : Some i ≡ None = cc full.not_there in cc;
      places = places;
      reads = λ b. ap (λ es. left (entries es) b) places ∙ left_placed es c.args.account n b _ refl;
    }

pub returns-in-None-2 : goal.returns-in-None-2
returns-in-None-2 c =
    let t = c.args.self.now in
    let es = t.list.items in
    let n = c.args.left in
    let x = entry c.args.account n in
    let same : c.number.result ≡ c.args.account = search rules in
    let places : c.push.new.self.items ≡ placed_in es (entry_of t c.args.account) x =
    c.push.ensures.items ∙ ap (λ a. es ++ entry a n ∷ []) same ∙ ap (λ p. placed_in es p x) c.in-None-2.ensures.value in
    record {
      range = search rules;
      room = λ full. search (rules, full.all_used);
      places = places;
      reads = λ b. ap (λ es. left (entries es) b) places ∙ left_placed es c.args.account n b _ refl;
    }
