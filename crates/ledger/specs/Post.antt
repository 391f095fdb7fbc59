-- What a call changes in the book once it is accepted.
use Rattle.std.specs.Prelude.{ℕ, ◌*◌, cond, ℤ, pos, ◌+ℤ◌, ◌-ℤ◌, ◌*ℤ◌, neg_ℤ, fold, ◌==◌, nat_lt, unsigned_abs}
use Rattle.registers.specs.Rows.{Rows}
use Rattle.terms.specs.declared.family.Family.{Family}
use Rattle.terms.specs.declared.kinds.SeriesKind.{SeriesKind}
use Rattle.terms.specs.declared.kinds.SeriesKind.TheVariants.{Future, CallOnFuture, PutOnFuture}
use Rattle.terms.specs.declared.kinds.SeriesKind.TheVariants as kinds
use Rattle.terms.specs.declared.kinds.AccountKind.{AccountKind}
use Rattle.terms.specs.declared.kinds.Size.{Size}
use Rattle.terms.specs.declared.kinds.Size.TheVariants.{Full}
use Rattle.terms.specs.Kinds.{units_in}
use Rattle.positions.specs.declared.position.Position.{Position}
use Rattle.positions.specs.Positions.{units, dealt, closed}
use Rattle.positions.specs.Money.{amount}
use Rattle.positions.specs.Keys.{future_key, line_key, account_of_key}
use Rattle.ledger.specs.declared.rows.Account.{Account}
use Rattle.ledger.specs.declared.rows.State.{State}
use Rattle.ledger.specs.declared.rows.State.TheVariants.{Trading, Fixed, Done}
use Rattle.ledger.specs.declared.rows.Terms.{Terms}
use Rattle.ledger.specs.Calls.{Series, Trade, Call, admit, list, trade, close, mark, delta, enter, exercise, settle, Pricing}
use Rattle.ledger.specs.Numbers.{series_kind, size_of, account_kind_of, is_future, key_of}
use Rattle.ledger.specs.Rows.{change, revise, in_series, outside}
use Rattle.ledger.specs.Book.{Book, book, family_in, nobody, unlisted, kind_at, terms_at, value_at, final_of}
use Rattle.ledger.specs.Charges.{trade_side, all_bought, payoff_at, lapses_at, charged, fee_of, fees_of, bought_fees}

-- ---- payments
abbrev pub paid : ℤ → Account → Account
paid x c = record { kind = c.kind; cash = c.cash +ℤ x }

unfoldable pub pay : ℕ → ℤ → Rows Account → Rows Account
pay a x accounts = change nobody (paid x) a accounts

-- each of these positions brings its account an amount
abbrev pub pay_each : (ℕ → Position → ℤ) → Rows Position → Rows Account → Rows Account
pay_each f ps accounts = fold (λ cs r. pay (account_of_key r.0) (f (account_of_key r.0) r.1) cs) accounts ps

-- ---- terms
abbrev pub valued : ℤ → Terms → Terms
valued v t = record { value = v; state = t.state }

abbrev pub stated : State → Terms → Terms
stated q t = record { value = t.value; state = q }

-- ---- a trade
-- n contracts of a size, in units
abbrev pub lots : Size → ℤ → ℤ
lots z n = pos (units_in z) *ℤ n

-- the units of a trade
abbrev pub traded : Trade → ℤ
traded t = lots (size_of t.size) (pos t.count)

-- what the buyer gets from the seller: in a future up to the mark; in an option he pays the premium
unfoldable pub cash_of : Family → ℤ → Trade → ℤ
cash_of f now t =
    cond (is_future (series_kind t.series))
    (amount f (traded t) (now -ℤ pos t.price))
    (neg_ℤ (amount f (traded t) (pos t.price)))

abbrev pub post_trade : Book → Trade → Pricing → Book
post_trade b t p =
    let s : ℕ = key_of t.series in
    let n : ℤ = pos t.count in
    let x : ℤ = cash_of (family_in b) (value_at b s) t in
    let f : ℤ = fee_of (p (trade_side t t.buyer (kind_at b t.buyer))) in
    let g : ℤ = fee_of (p (trade_side t t.seller (kind_at b t.seller))) in
    book b
    (pay t.seller (neg_ℤ x -ℤ g) (pay t.buyer (x -ℤ f) b.accounts))
    b.series
    (revise (dealt (kind_at b t.seller) (size_of t.size) (neg_ℤ n)) (line_key s t.seller)
    (revise (dealt (kind_at b t.buyer) (size_of t.size) n) (line_key s t.buyer) b.positions))
    (b.exchange +ℤ fees_of p (charged b (trade t)))

-- ---- the mark of the future s moves to v: each position in it gets the difference
abbrev pub post_mark : Book → ℕ → ℤ → Book
post_mark b s v =
    book b
    (pay_each (λ _ l. amount (family_in b) (units l) (v -ℤ value_at b s)) (in_series s b.positions) b.accounts)
    (change unlisted (valued v) s b.series)
    b.positions
    b.exchange

-- ---- a series ends: it is Done, and has no positions
abbrev pub post_end : Book → ℕ → Book
post_end b s = book b b.accounts (change unlisted (stated Done) s b.series) (outside s b.positions) b.exchange

-- a future is settled: the final price becomes its mark
abbrev pub post_final : Book → ℕ → Book
post_final b s = post_end (post_mark b s (pos (final_of (terms_at b s)))) s

-- a cash option is settled: it pays its payoff, less fees where it pays at all
abbrev pub settle_fees : Book → Pricing → Series → ℕ → ℕ → Position → ℤ
settle_fees b p x gain a l = cond (nat_lt 0 gain) (bought_fees p a (kind_at b a) (series_kind x) l) (pos 0)

abbrev pub post_cash : Book → Series → Pricing → Book
post_cash b x p =
    let s : ℕ = key_of x in
    book b
    (pay_each (λ a l. amount (family_in b) (units l) (pos (payoff_at b x)) -ℤ settle_fees b p x (payoff_at b x) a l) (in_series s b.positions) b.accounts)
    (change unlisted (stated Done) s b.series)
    (outside s b.positions)
    (b.exchange +ℤ fees_of p (charged b (settle x)))

-- ---- an option on the future is exercised
-- the holder of a put becomes short, its writer long
abbrev pub turned : SeriesKind → ℤ → ℤ
turned Future n = n
turned kinds.Call n = n
turned kinds.Put n = n
turned CallOnFuture n = n
turned PutOnFuture n = neg_ℤ n

-- fulls that an exercise brings to an account of that kind; one that gets none keeps what it has
unfoldable pub assigned : AccountKind → ℤ → Position → Position
assigned h n p = cond (unsigned_abs n == 0) p (dealt h Full n p)

-- each of these positions adds to its account's position in the series m
abbrev pub move_each : ℕ → (ℕ → Position → Position → Position) → Rows Position → Rows Position → Rows Position
move_each m f ps all = fold (λ qs r. revise (f (account_of_key r.0) r.1) (line_key m (account_of_key r.0)) qs) all ps

-- every position becomes one in the month's future at the strike, which is posted up to the mark, less fees
abbrev pub post_exercise : Book → Series → Pricing → Book
post_exercise b x p =
    let s : ℕ = key_of x in
    let m : ℕ = future_key x.month in
    let k : SeriesKind = series_kind x in
    book b
    (pay_each (λ a l. turned k (amount (family_in b) (units l) (value_at b m -ℤ pos (100 * x.strike))) -ℤ bought_fees p a (kind_at b a) k l) (in_series s b.positions) b.accounts)
    (change unlisted (stated Done) s b.series)
    (outside s (move_each m (λ a l. assigned (kind_at b a) (turned k l.fulls)) (in_series s b.positions) b.positions))
    (b.exchange +ℤ fees_of p (all_bought b k (in_series s b.positions)))

unfoldable pub post : Book → Call → Pricing → Book
post b (admit a h) p = book b (change nobody (λ _. record { kind = account_kind_of h; cash = pos 0 }) a b.accounts) b.series b.positions b.exchange
post b (list x v) p = book b b.accounts (change unlisted (λ _. record { value = v; state = Trading }) (key_of x) b.series) b.positions b.exchange
post b (trade t) p = post_trade b t p
post b (close x a k) p = book b b.accounts b.series (revise (closed k) (line_key (key_of x) a) b.positions) b.exchange
post b (mark m x) p = post_mark b (future_key m) (pos x)
post b (delta x d) p = book b b.accounts (change unlisted (valued d) (key_of x) b.series) b.positions b.exchange
post b (enter m f x) p = book b b.accounts (change unlisted (stated (Fixed x)) (future_key m) b.series) b.positions b.exchange
post b (exercise x level) p = cond (lapses_at x level) (post_end b (key_of x)) (post_exercise b x p)
post b (settle x) p = cond (is_future (series_kind x)) (post_final b (key_of x)) (post_cash b x p)
