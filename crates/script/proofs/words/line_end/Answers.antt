use Rattle.std.proofs.Common.{rules, ◌-◌}
use Rattle.std.proofs.lemmas.Grind.{common_steps}
use Rattle.script.proofs.OneWord.{only_end}
use Rattle.script.proofs.words.line_end.Goals as goal

pub returns : goal.returns
returns c = only_end _ _ _ (record {
  after = search rules;
  within = search (rules, common_steps);
  skipped = λ k h m. let before = c.first_place.ensures.before (k - c.args.from) in search (rules, common_steps, before);
  stops = search (rules, common_steps);
})
