use Rattle.std.proofs.Common.{ltb, rules, tests}
use Rattle.std.proofs.lemmas.Iterator.{YieldsList-from_slice}
use Rattle.std.proofs.lemmas.Iterator.Search.{find_from_yields_List}
use Rattle.strikelists.proofs.runs.run_end.Goals as goal

pub returns : goal.returns
returns c =
    let e = find_from_yields_List (λ b. ltb c.args.strike b.from) _ _ c.find.result c.find.ensures.ran (YieldsList-from_slice c.args.bands.now (cc)) (λ x b q k. search (rules, tests)) in
    rw (← e) (search rules)
