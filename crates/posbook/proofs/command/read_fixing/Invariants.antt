use Rattle.std.proofs.Common.{◌≡◌, ℕ, List, ◌∷◌, ◌++◌, [], vec_items}
use Rattle.posbook.specs.Lines.{Words}
use Rattle.posbook.specs.Commands.{Prices}
use Rattle.posbook.proofs.command.read_fixing.Given as goal

-- the words behind the first price, and the prices that they write, up to the close
abbrev pub invariant-loop-word : goal.invariant-loop-word
invariant-loop-word l =
    (l.words.line ≡ l.initial.words.line)
    × ((ws : List (List ℕ)) × (qs : List ℕ)
    × Words l.initial.words.line.now l.initial.words.at ws l.words.at
    × Prices ws qs
    × (l.initial.close ∷ qs ≡ vec_items l.samples ++ l.close ∷ []))
