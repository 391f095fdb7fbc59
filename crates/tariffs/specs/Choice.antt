-- One of two tariffs: all that it says is what the chosen one says.
use Rattle.std.specs.Prelude.{ℕ, Option}
use Rattle.tariffs.specs.declared.side.Side.{Side}
use Rattle.either.specs.declared.Either.{Either}
use Rattle.either.specs.declared.Either.TheVariants.{Left, Right}

abbrev pub chosen_price : {A B : Type 0} → (A → Side → Option ℕ) → (B → Side → Option ℕ) → Either A B → Side → Option ℕ
chosen_price p q (Left a) s = p a s
chosen_price p q (Right b) s = q b s

abbrev pub chosen_after : {A B : Type 0} → (A → Side → A) → (B → Side → B) → Either A B → Side → Either A B
chosen_after p q (Left a) s = Left (p a s)
chosen_after p q (Right b) s = Right (q b s)
