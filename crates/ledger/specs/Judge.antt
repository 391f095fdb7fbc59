-- When a call is refused. Tests go in the order of the refusals' numbers, one a line; those of limit, space and amounts are made on the
-- book c as it would stand after the call.
use Rattle.std.specs.Prelude.{ℕ, ◌*◌, max, Bool, true, false, cond, not, ◌&&◌, ◌||◌, length, ℤ, is_some, Some, None, Ok, Err, Option, Result, ◌==◌, nat_le, nat_lt, unsigned_abs}
use Rattle.std.specs.Option.{option_map}
use Rattle.terms.specs.declared.refusal.Reason.{Reason}
use Rattle.terms.specs.declared.refusal.Reason.TheVariants.{
  OutOfRange,
  OffStep,
  Present,
  Absent,
  WrongState,
  SameAccount,
  OverLimit,
  CloseExceeds,
  NoSpace,
  AmountOutOfRange,
}
use Rattle.terms.specs.declared.refusal.Refusal.{Refusal}
use Rattle.terms.specs.declared.family.Family.{Family}
use Rattle.terms.specs.Refusals.{about, plain}
use Rattle.terms.specs.Families.{limit_of}
use Rattle.charges.specs.Fees.{rated_all}
use Rattle.positions.specs.Positions.{closable, in_range}
use Rattle.positions.specs.Money.{balance_in}
use Rattle.positions.specs.Keys.{future_key, account_of_key}
use Rattle.ledger.specs.declared.rows.Terms.{Terms}
use Rattle.ledger.specs.Calls.{Series, Trade, Call, admit, list, trade, close, mark, delta, enter, exercise, settle, Pricing}
use Rattle.ledger.specs.Numbers.{
  is_family,
  space_in,
  account_in,
  month_in,
  price_in,
  deal_in,
  delta_range,
  first_in,
  series_in,
  is_on_step,
  on_tick,
  size_offered,
  series_kind,
  kind_of,
  is_future,
  on_future,
  key_of,
  kind_of_key,
  future_of_key,
}
use Rattle.ledger.specs.Rows.{present, in_series, first}
use Rattle.ledger.specs.Book.{Spaces, Book, family_in, cash_at, state_at, position_at, is_trading, is_fixed, is_done, month_at, delta_of}
use Rattle.ledger.specs.Charges.{charged}

-- accepted, or the refusal
abbrev pub Verdict : Type 0
Verdict = Result (Unit {0}) Refusal

abbrev pub accepted : Verdict → Bool
accepted (Ok _) = true
accepted (Err e) = false

-- refused unless the test holds
unfoldable pub need : Bool → Refusal → Verdict → Verdict
need true e later = later
need false e later = Err e

-- the account that is found is refused
unfoldable pub unless : Option ℕ → Reason → Verdict → Verdict
unless None why later = later
unless (Some a) why later = Err (about why a)

-- what follows a refusal does not matter
unfoldable pub also : Verdict → Verdict → Verdict
also (Ok _) later = later
also (Err e) later = Err e

-- ---- states
abbrev pub open? : Book → Series → Bool
open? b x = not (is_done (state_at b (key_of x)))

-- a series on the future of the month m that is not Done
abbrev pub pending_of : ℕ → ℕ → Terms → Bool
pending_of m s t = future_of_key s == future_key m && (on_future (kind_of (kind_of_key s)) && not (is_done t.state))

abbrev pub pending : Book → ℕ → Bool
pending b m = is_some (first (pending_of m) b.series)

-- a future is settled once its month is Fixed and nothing on it is left; an option once its month is not Trading any more
abbrev pub settleable : Book → Series → Bool
settleable b x =
    cond (is_future (series_kind x))
    (is_fixed (month_at b x.month) && not (pending b x.month))
    (open? b x && not (is_trading (month_at b x.month)))

-- ---- limits: an account's delta after the call is within the limit, or no farther from zero than before
abbrev pub limit : Family → ℕ
limit f = limit_of f * 50000

abbrev pub within : Book → Book → ℕ → Bool
within b c a = nat_le (unsigned_abs (delta_of c a)) (max (limit (family_in b)) (unsigned_abs (delta_of b a)))

-- ---- space
abbrev pub fits : Book → Bool
fits c = nat_le (length c.accounts) c.spaces.accounts && (nat_le (length c.series) c.spaces.series && nat_le (length c.positions) c.spaces.positions)

-- how many places of scratch a call needs: one for each position in a series that ends
abbrev pub places : Book → Call → ℕ
places b (admit a h) = 0
places b (list x v) = 0
places b (trade t) = 0
places b (close x a k) = 0
places b (mark m x) = 0
places b (delta x d) = 0
places b (enter m f x) = 0
places b (exercise x level) = length (in_series (key_of x) b.positions)
places b (settle x) = length (in_series (key_of x) b.positions)

-- ---- amounts: an account's counts in the series s, and its cash balance
abbrev pub holder_in : ℕ → Book → ℕ → Bool
holder_in s c a = in_range (position_at c s a) && balance_in (cash_at c a)

-- the first account with a position in the series s that has counts in the series m, or a balance, out of range
abbrev pub overdrawn : Book → ℕ → ℕ → Book → Option ℕ
overdrawn b s m c = option_map account_of_key (first (λ k _. not (holder_in m c (account_of_key k))) (in_series s b.positions))

-- ---- each call
abbrev pub judge_admit : Book → ℕ → ℕ → Book → Verdict
judge_admit b a h c =
    need (account_in a) (plain OutOfRange)
    (need (nat_lt h 3) (plain OutOfRange)
    (need (not (present b.accounts a)) (plain Present)
    (need (fits c) (plain NoSpace)
    (Ok tt))))

abbrev pub judge_list : Book → Series → ℤ → Book → Verdict
judge_list b x v c =
    need (series_in (family_in b) x) (plain OutOfRange)
    (need (first_in (series_kind x) v) (plain OutOfRange)
    (need (is_on_step (family_in b) x) (plain OffStep)
    (need (not (present b.series (key_of x))) (plain Present)
    (need (is_future (series_kind x) || present b.series (future_key x.month)) (plain Absent)
    (need (is_future (series_kind x) || is_trading (month_at b x.month)) (plain WrongState)
    (need (fits c) (plain NoSpace)
    (Ok tt)))))))

abbrev pub judge_trade : Book → Trade → Pricing → Book → Verdict
judge_trade b t p c =
    need (series_in (family_in b) t.series) (plain OutOfRange)
    (need (size_offered (family_in b) t.series t.size) (plain OutOfRange)
    (need (account_in t.buyer) (plain OutOfRange)
    (need (account_in t.seller) (plain OutOfRange)
    (need (deal_in t.count) (plain OutOfRange)
    (need (price_in t.price) (plain OutOfRange)
    (need (is_on_step (family_in b) t.series) (plain OffStep)
    (need (on_tick (family_in b) t.price) (plain OffStep)
    (need (present b.accounts t.buyer) (about Absent t.buyer)
    (need (present b.accounts t.seller) (about Absent t.seller)
    (need (present b.series (key_of t.series)) (plain Absent)
    (need (is_trading (month_at b t.series.month)) (plain WrongState)
    (need (open? b t.series) (plain WrongState)
    (need (not (t.buyer == t.seller)) (plain SameAccount)
    (need (within b c t.buyer) (about OverLimit t.buyer)
    (need (within b c t.seller) (about OverLimit t.seller)
    (need (fits c) (plain NoSpace)
    (also (rated_all p (charged b (trade t)))
    (need (holder_in (key_of t.series) c t.buyer) (about AmountOutOfRange t.buyer)
    (need (holder_in (key_of t.series) c t.seller) (about AmountOutOfRange t.seller)
    (need (balance_in c.exchange) (plain AmountOutOfRange)
    (Ok tt)))))))))))))))))))))

abbrev pub judge_close : Book → Series → ℕ → ℕ → Verdict
judge_close b x a k =
    need (series_in (family_in b) x) (plain OutOfRange)
    (need (account_in a) (plain OutOfRange)
    (need (deal_in k) (plain OutOfRange)
    (need (is_on_step (family_in b) x) (plain OffStep)
    (need (present b.accounts a) (about Absent a)
    (need (present b.series (key_of x)) (plain Absent)
    (need (closable k (position_at b (key_of x) a)) (about CloseExceeds a)
    (Ok tt)))))))

abbrev pub judge_mark : Book → ℕ → ℕ → Book → Verdict
judge_mark b m x c =
    need (month_in m) (plain OutOfRange)
    (need (price_in x) (plain OutOfRange)
    (need (present b.series (future_key m)) (plain Absent)
    (need (is_trading (month_at b m)) (plain WrongState)
    (unless (overdrawn b (future_key m) (future_key m) c) AmountOutOfRange
    (Ok tt)))))

abbrev pub judge_delta : Book → Series → ℤ → Verdict
judge_delta b x d =
    need (series_in (family_in b) x) (plain OutOfRange)
    (need (not (is_future (series_kind x))) (plain OutOfRange)
    (need (delta_range (series_kind x) d) (plain OutOfRange)
    (need (is_on_step (family_in b) x) (plain OffStep)
    (need (present b.series (key_of x)) (plain Absent)
    (need (open? b x) (plain WrongState)
    (Ok tt))))))

abbrev pub judge_enter : Book → ℕ → ℕ → ℕ → Verdict
judge_enter b m f x =
    need (month_in m) (plain OutOfRange)
    (need (f == b.family) (plain OutOfRange)
    (need (nat_le x 10000000) (plain OutOfRange)
    (need (present b.series (future_key m)) (plain Absent)
    (need (is_trading (month_at b m)) (plain WrongState)
    (Ok tt)))))

abbrev pub judge_exercise : Book → Series → ℕ → Pricing → ℕ → Book → Verdict
judge_exercise b x level p scratch c =
    need (series_in (family_in b) x) (plain OutOfRange)
    (need (on_future (series_kind x)) (plain OutOfRange)
    (need (price_in level) (plain OutOfRange)
    (need (is_on_step (family_in b) x) (plain OffStep)
    (need (present b.series (key_of x)) (plain Absent)
    (need (present b.series (future_key x.month)) (plain Absent)
    (need (open? b x) (plain WrongState)
    (need (not (is_done (month_at b x.month))) (plain WrongState)
    (need (nat_le (places b (exercise x level)) scratch) (plain NoSpace)
    (need (fits c) (plain NoSpace)
    (also (rated_all p (charged b (exercise x level)))
    (unless (overdrawn b (key_of x) (future_key x.month) c) AmountOutOfRange
    (need (balance_in c.exchange) (plain AmountOutOfRange)
    (Ok tt)))))))))))))

abbrev pub judge_settle : Book → Series → Pricing → ℕ → Book → Verdict
judge_settle b x p scratch c =
    need (series_in (family_in b) x) (plain OutOfRange)
    (need (not (on_future (series_kind x))) (plain OutOfRange)
    (need (is_on_step (family_in b) x) (plain OffStep)
    (need (present b.series (key_of x)) (plain Absent)
    (need (settleable b x) (plain WrongState)
    (need (nat_le (places b (settle x)) scratch) (plain NoSpace)
    (also (rated_all p (charged b (settle x)))
    (unless (overdrawn b (key_of x) (key_of x) c) AmountOutOfRange
    (need (balance_in c.exchange) (plain AmountOutOfRange)
    (Ok tt)))))))))

unfoldable pub judge_call : Book → Call → Pricing → ℕ → Book → Verdict
judge_call b (admit a h) p scratch c = judge_admit b a h c
judge_call b (list x v) p scratch c = judge_list b x v c
judge_call b (trade t) p scratch c = judge_trade b t p c
judge_call b (close x a k) p scratch c = judge_close b x a k
judge_call b (mark m x) p scratch c = judge_mark b m x c
judge_call b (delta x d) p scratch c = judge_delta b x d
judge_call b (enter m f x) p scratch c = judge_enter b m f x
judge_call b (exercise x level) p scratch c = judge_exercise b x level p scratch c
judge_call b (settle x) p scratch c = judge_settle b x p scratch c

-- what a book is refused for at its opening, and each call after it
abbrev pub judge_opening : ℕ → Spaces → Verdict
judge_opening f z =
    need (is_family f) (plain OutOfRange)
    (need (space_in z.accounts) (plain NoSpace)
    (need (space_in z.series) (plain NoSpace)
    (need (space_in z.positions) (plain NoSpace)
    (Ok tt))))
