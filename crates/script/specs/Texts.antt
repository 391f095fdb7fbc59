-- What is said of a word that gives no number.
use Rattle.std.specs.Prelude.{ℕ, List, codes}
use Rattle.script.specs.declared.numbers.Misread.{Misread}
use Rattle.script.specs.declared.numbers.Misread.TheVariants.{NotANumber, TooFine, TooLarge}

abbrev pub misread_text : Misread → List ℕ
misread_text NotANumber = codes "is not a number"
misread_text TooFine = codes "has more than two decimals"
misread_text TooLarge = codes "is too large"
