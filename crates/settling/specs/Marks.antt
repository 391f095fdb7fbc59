-- A new mark.
use Rattle.std.specs.Prelude.{ℕ, ℤ, pos}
use Rattle.positions.specs.declared.position.Position.{Position}
use Rattle.ledger.specs.Calls.{Event, mark}
use Rattle.ledger.specs.Rows.{change, in_series}
use Rattle.ledger.specs.Book.{Book, book, unlisted}
use Rattle.ledger.specs.Post.{valued}
use Rattle.tables.specs.Model.{bare}
use Rattle.settling.specs.Payments.{pay_all}

abbrev pub marking : ℕ → ℕ → Event
marking month price = bare (mark month price)

-- the mark of the future s is v, and each position in it got f
abbrev pub moved : (Position → ℤ) → ℕ → ℕ → Book → Book
moved f s v b =
    book b (pay_all f (in_series s b.positions) b.accounts) (change unlisted (valued (pos v)) s b.series) b.positions b.exchange
