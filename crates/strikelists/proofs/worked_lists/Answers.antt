use Rattle.std.proofs.Common.{◌≡◌, ℕ, List, length, get_or, refl, ap, inl, arith, lit<}
use Rattle.std.proofs.lemmas.Bool.Decides.{nat_tests}
use Rattle.terms.specs.declared.family.Family.TheVariants.{HangSeng}
use Rattle.terms.specs.Families.{bands_of}
use Rattle.strikelists.specs.Strikes.{Nearest, LowEnd, HighEnd, StrikeList}
use Rattle.strikelists.specs.Runs.{stretch}
use Rattle.strikelists.proofs.Words.{one_list, stretch_list}
use Rattle.strikelists.proofs.worked_lists.Goals as goal

near : Nearest (bands_of HangSeng) 2012600 20200
near = record { listed = record { some = lit< tt; whole = refl }; closest = λ k l. let w = l.whole in grind (arith, nat_tests) }

midway : Nearest (bands_of HangSeng) 497500 4950
midway = record { listed = record { some = lit< tt; whole = refl }; closest = λ k l. let w = l.whole in grind (arith, nat_tests) }

low : LowEnd (bands_of HangSeng) 20200 18100
low = inl ((record { some = lit< tt; whole = refl }, omega arith), λ m p. let w = p.0.whole in let h = p.1 in grind (arith, nat_tests))

high : HighEnd (bands_of HangSeng) 20200 22400
high = ((record { some = lit< tt; whole = refl }, omega arith), λ m p. let w = p.0.whole in let h = p.1 in grind (arith, nat_tests))

list : StrikeList (bands_of HangSeng) 2012600 (stretch (bands_of HangSeng) 18100 22400)
list = stretch_list (bands_of HangSeng) 2012600 20200 18100 22400 near low high

is : (xs : List ℕ) → StrikeList (bands_of HangSeng) 2012600 xs → xs ≡ stretch (bands_of HangSeng) 18100 22400
is xs s = one_list (bands_of HangSeng) 2012600 xs (stretch (bands_of HangSeng) 18100 22400) s list

pub returns : goal.returns
returns c = record {
  list = record {
    nearest = near;
    there = (stretch (bands_of HangSeng) 18100 22400, list);
    count = λ xs s. ap length (is xs s);
    first = λ xs s. ap (λ ys. get_or ys 0 0) (is xs s);
    last = λ xs s. ap (λ ys. get_or ys 31 0) (is xs s);
  };
  midway = midway;
}
