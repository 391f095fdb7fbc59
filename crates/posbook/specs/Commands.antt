-- Which line says which command.
use Rattle.std.specs.Prelude.{◌≡◌, ℕ, List, [], ◌∷◌, ◌++◌, Ok, vec_items, codes}
use Rattle.script.specs.Numbers.{Number, Hundredths}
use Rattle.posbook.specs.declared.command.Command.{Command}
use Rattle.posbook.specs.declared.command.Command.TheVariants.{Fixing, Strikes}
use Rattle.posbook.specs.Lines.{AllWords}

-- each word writes the price at its place
abbrev pub Prices : List (List ℕ) → List ℕ → Type 0
Prices [] [] = Unit {0}
Prices [] (p ∷ ps) = ⊥
Prices (w ∷ ws) [] = ⊥
Prices (w ∷ ws) (p ∷ ps) = Hundredths w (Ok p) × Prices ws ps

-- the command's first word
abbrev pub name_of : Command → List ℕ
name_of (Fixing family samples close) = codes "fixing"
name_of (Strikes family level) = codes "strikes"

-- A fixing's other words are its family, its samples and its close, a strike list's its family and its level.
abbrev pub Arguments : List (List ℕ) → Command → Type 0
Arguments ws (Fixing family samples close) =
    (v : List ℕ) × (vs : List (List ℕ)) × (ws ≡ v ∷ vs) × Number v (Ok family) × Prices vs (vec_items samples ++ close ∷ [])
Arguments ws (Strikes family level) =
    (v : List ℕ) × (w : List ℕ) × (ws ≡ v ∷ w ∷ []) × Number v (Ok family) × Hundredths w (Ok level)

-- From place a on the line holds the arguments of a command of that name, and nothing else.
pub record Behind (line : List ℕ) (a : ℕ) (name : List ℕ) (c : Command) : Type 0 where
  pub words : List (List ℕ)
  pub all : AllWords line a words
  pub arguments : Arguments words c
  pub named : name_of c ≡ name

-- The line says the command: its name, then its arguments, and nothing else.
pub record Says (line : List ℕ) (c : Command) : Type 0 where
  pub words : List (List ℕ)
  pub all : AllWords line 0 (name_of c ∷ words)
  pub arguments : Arguments words c
