-- The space of a book, in rows.
use Rattle.ledger.specs.Book.{Spaces}
use Rattle.tables.specs.declared.space.Space.{Space}

abbrev pub spaces_in : Space → Spaces
spaces_in s = record { accounts = s.accounts.room; series = s.series.room; positions = s.positions.room }
