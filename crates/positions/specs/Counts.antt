-- Counts on the way, as wide as the code needs them.
use Rattle.positions.specs.declared.position.Counts.{Counts}
use Rattle.positions.specs.declared.position.Position.{Position}
use Rattle.positions.specs.Positions.{position}

abbrev pub position_of : Counts → Position
position_of c = position c.fulls c.minis
