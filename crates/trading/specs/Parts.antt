-- The tests of a trade in five parts: its numbers, who and what is there, limits and space, rates, and amounts.
use Rattle.std.specs.Prelude.{not, Ok, ◌==◌}
use Rattle.terms.specs.declared.family.Family.{Family}
use Rattle.terms.specs.declared.refusal.Reason.TheVariants.{OutOfRange, OffStep, Absent, WrongState, SameAccount, OverLimit, NoSpace, AmountOutOfRange}
use Rattle.terms.specs.Refusals.{plain, about}
use Rattle.positions.specs.Money.{balance_in}
use Rattle.ledger.specs.Calls.{Trade}
use Rattle.ledger.specs.Numbers.{account_in, price_in, deal_in, series_in, is_on_step, on_tick, size_offered, key_of}
use Rattle.ledger.specs.Rows.{present}
use Rattle.ledger.specs.Book.{Book, is_trading, month_at}
use Rattle.ledger.specs.Judge.{Verdict, need, open?, within, fits, holder_in}

unfoldable pub asked : Family → Trade → Verdict
asked f t =
    need (series_in f t.series) (plain OutOfRange)
    (need (size_offered f t.series t.size) (plain OutOfRange)
    (need (account_in t.buyer) (plain OutOfRange)
    (need (account_in t.seller) (plain OutOfRange)
    (need (deal_in t.count) (plain OutOfRange)
    (need (price_in t.price) (plain OutOfRange)
    (need (is_on_step f t.series) (plain OffStep)
    (need (on_tick f t.price) (plain OffStep)
    (Ok tt))))))))

unfoldable pub known : Book → Trade → Verdict
known b t =
    need (present b.accounts t.buyer) (about Absent t.buyer)
    (need (present b.accounts t.seller) (about Absent t.seller)
    (need (present b.series (key_of t.series)) (plain Absent)
    (need (is_trading (month_at b t.series.month)) (plain WrongState)
    (need (open? b t.series) (plain WrongState)
    (need (not (t.buyer == t.seller)) (plain SameAccount)
    (Ok tt))))))

-- c is the book as it would stand after the trade
unfoldable pub allowed : Book → Trade → Book → Verdict
allowed b t c =
    need (within b c t.buyer) (about OverLimit t.buyer)
    (need (within b c t.seller) (about OverLimit t.seller)
    (need (fits c) (plain NoSpace)
    (Ok tt)))

unfoldable pub afforded : Trade → Book → Verdict
afforded t c =
    need (holder_in (key_of t.series) c t.buyer) (about AmountOutOfRange t.buyer)
    (need (holder_in (key_of t.series) c t.seller) (about AmountOutOfRange t.seller)
    (need (balance_in c.exchange) (plain AmountOutOfRange)
    (Ok tt)))
