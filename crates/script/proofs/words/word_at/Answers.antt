use Rattle.std.proofs.Common.{rules, ◌+◌, ◌-◌}
use Rattle.std.proofs.lemmas.Grind.{common_steps}
use Rattle.script.proofs.OneWord.{only_word}
use Rattle.script.proofs.words.word_at.Goals as goal

pub returns : goal.returns
returns c = only_word _ _ _ (record {
  after = search rules;
  ordered = search rules;
  within = search (rules, common_steps);
  skipped = λ k h m. let before = c.first_place.ensures.before (k - c.args.from) in search (rules, common_steps, before);
  taken = λ k h m. let before = c.first_place-2.ensures.before (k - (c.min-from.result + c.first_place.result)) in search (rules, common_steps, before);
  stops = search (rules, common_steps);
  none = search (rules, common_steps);
})
