-- The lines of a script, and the words of a line, one after the other.
use Rattle.std.specs.Prelude.{◌≡◌, ℕ, suc, ◌<◌, ◌≤◌, List, [], ◌∷◌, length, Some, None, Option}
use Rattle.std.specs.List.{between}
use Rattle.script.specs.declared.words.Span.{Span}
use Rattle.script.specs.Words.{WordAt, LineEnd}

-- From place a on, the next line of the text is l, behind whose end stands place b; or the text has ended.
abbrev pub NextLine : List ℕ → ℕ → Option (List ℕ) → ℕ → Type 0
NextLine text a (Some l) b = (a < length text) × (end : ℕ) × LineEnd text a end × (l ≡ between a end text) × (b ≡ suc end)
NextLine text a None b = (length text ≤ a) × (b ≡ a)

-- From place a on, the next word of the line is w, which ends before place b; or there is none.
abbrev pub Next : List ℕ → ℕ → Option (List ℕ) → ℕ → Type 0
Next line a (Some w) b = (s : Span) × WordAt line a s × (s.start < s.end) × (w ≡ between s.start s.end line) × (b ≡ s.end)
Next line a None b = (s : Span) × WordAt line a s × (s.start ≡ s.end) × (b ≡ s.end)

-- From place a on stand these words, the last of which ends before place b.
abbrev pub Words : List ℕ → ℕ → List (List ℕ) → ℕ → Type 0
Words line a [] b = a ≡ b
Words line a (w ∷ ws) b = (c : ℕ) × Next line a (Some w) c × Words line c ws b

-- These words and no others stand from place a on.
abbrev pub AllWords : List ℕ → ℕ → List (List ℕ) → Type 0
AllWords line a ws = (b : ℕ) × (c : ℕ) × Words line a ws b × Next line b None c
