-- Months that trade.
use Rattle.std.specs.Prelude.{ℕ, Ok}
use Rattle.terms.specs.declared.refusal.Reason.TheVariants.{Absent, WrongState}
use Rattle.terms.specs.Refusals.{plain}
use Rattle.positions.specs.Keys.{future_key}
use Rattle.ledger.specs.Rows.{present}
use Rattle.ledger.specs.Book.{Book, is_trading, month_at}
use Rattle.ledger.specs.Judge.{Verdict, need}

-- 7 where the month's future is not listed, then 8 where the month is not trading
abbrev pub trading : Book → ℕ → Verdict
trading b m = need (present b.series (future_key m)) (plain Absent) (need (is_trading (month_at b m)) (plain WrongState) (Ok tt))
