-- An account's position in a series, after a close.
use Rattle.std.specs.Prelude.{◌≡◌, ℕ}
use Rattle.positions.specs.declared.position.Position.{Position}
use Rattle.positions.specs.Keys.{line_key}
use Rattle.positions.specs.Positions.{closed}
use Rattle.ledger.specs.Book.{position_at}
use Rattle.tables.specs.declared.tables.Tables.{Tables}
use Rattle.tables.specs.Model.{model_of}
use Rattle.entering.specs.declared.keyed.Keyed.{Keyed}

pub record ClosedAt (t : Tables) (series account count : ℕ) (c : Keyed Position) : Type 0 where
  pub has_key : c.key ≡ line_key series account
  pub has_position : c.value ≡ closed count (position_at (model_of t) series account)
