use Rattle.std.proofs.Common.{rules}
use Rattle.std.proofs.lemmas.Bool.Decides.{nat_tests}
use Rattle.script.proofs.numbers.point_place.Goals as goal

pub returns : goal.returns
returns c = record {
  within = search rules;
  before = λ k h. let before = c.first_place.ensures.before k h in search (rules, nat_tests);
  found = λ h. let found = c.first_place.ensures.found h in search (rules, nat_tests);
}
