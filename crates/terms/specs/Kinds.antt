-- The kinds of series and of accounts, and the sizes of contracts, with their numbers.
use Rattle.std.specs.Prelude.{ℕ}
use Rattle.terms.specs.declared.kinds.SeriesKind.{SeriesKind}
use Rattle.terms.specs.declared.kinds.SeriesKind.TheVariants.{Future, Call, Put, CallOnFuture, PutOnFuture}
use Rattle.terms.specs.declared.kinds.AccountKind.{AccountKind}
use Rattle.terms.specs.declared.kinds.AccountKind.TheVariants.{House, Maker, Client}
use Rattle.terms.specs.declared.kinds.Size.{Size}
use Rattle.terms.specs.declared.kinds.Size.TheVariants.{Full, Mini}

abbrev pub kind_number : SeriesKind → ℕ
kind_number Future = 0
kind_number Call = 1
kind_number Put = 2
kind_number CallOnFuture = 3
kind_number PutOnFuture = 4

abbrev pub account_kind_number : AccountKind → ℕ
account_kind_number House = 0
account_kind_number Maker = 1
account_kind_number Client = 2

abbrev pub size_number : Size → ℕ
size_number Full = 0
size_number Mini = 1

-- a full contract is five units, a mini one
abbrev pub units_in : Size → ℕ
units_in Full = 5
units_in Mini = 1
