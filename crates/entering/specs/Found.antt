-- A series that is listed in the tables.
use Rattle.std.specs.Prelude.{◌≡◌, ℕ, true}
use Rattle.ledger.specs.declared.rows.State.{State}
use Rattle.ledger.specs.Book.{state_at}
use Rattle.ledger.specs.Rows.{present}
use Rattle.tables.specs.declared.tables.Tables.{Tables}
use Rattle.tables.specs.Model.{model_of}
use Rattle.entering.specs.declared.keyed.Keyed.{Keyed}

pub record FoundAt (t : Tables) (key : ℕ) (f : Keyed State) : Type 0 where
  pub has_key : f.key ≡ key
  pub has_state : f.value ≡ state_at (model_of t) key
  pub there : present (model_of t).series key ≡ true
