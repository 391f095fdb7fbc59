-- Which sides a call charges, and what their fees are.
use Rattle.std.specs.Prelude.{ℕ, zero, suc, Bool, cond, List, [], ◌∷◌, ◌++◌, ℤ, pos, negsuc, ◌+ℤ◌, Some, None, Option, nat_lt}
use Rattle.registers.specs.Rows.{Rows}
use Rattle.terms.specs.declared.kinds.SeriesKind.{SeriesKind}
use Rattle.terms.specs.declared.kinds.AccountKind.{AccountKind}
use Rattle.terms.specs.declared.kinds.Size.{Size}
use Rattle.terms.specs.declared.kinds.Size.TheVariants.{Full, Mini}
use Rattle.tariffs.specs.declared.side.Event.TheVariants.{Trade, Exercise}
use Rattle.tariffs.specs.declared.side.Side.{Side}
use Rattle.positions.specs.declared.position.Position.{Position}
use Rattle.positions.specs.Money.{payoff, lapses}
use Rattle.positions.specs.Keys.{future_key, account_of_key}
use Rattle.ledger.specs.Calls.{Series, Call, admit, list, trade, close, mark, delta, enter, exercise, settle, Pricing}
use Rattle.ledger.specs.Calls as calls
use Rattle.ledger.specs.Numbers.{series_kind, size_of, key_of}
use Rattle.ledger.specs.Rows.{in_series}
use Rattle.ledger.specs.Book.{Book, kind_at, terms_at, final_of}

-- an account's side of a trade
abbrev pub trade_side : calls.Trade → ℕ → AccountKind → Side
trade_side t a h = record {
  account = a;
  account_kind = h;
  series_kind = series_kind t.series;
  size = size_of t.size;
  event = Trade;
  count = t.count;
}

-- ---- at exercise and settle: the bought fulls of an account and its bought minis, each as one side
abbrev pub exercise_side : ℕ → AccountKind → SeriesKind → Size → ℕ → Side
exercise_side a h k z n = record { account = a; account_kind = h; series_kind = k; size = z; event = Exercise; count = n }

abbrev pub bought_side : ℕ → AccountKind → SeriesKind → Size → ℤ → List Side
bought_side a h k z (pos zero) = []
bought_side a h k z (pos (suc n)) = exercise_side a h k z (suc n) ∷ []
bought_side a h k z (negsuc n) = []

abbrev pub bought_sides : ℕ → AccountKind → SeriesKind → Position → List Side
bought_sides a h k p = bought_side a h k Full p.fulls ++ bought_side a h k Mini p.minis

-- of each of these positions, in their order
abbrev pub all_bought : Book → SeriesKind → Rows Position → List Side
all_bought b k [] = []
all_bought b k (r ∷ rs) = bought_sides (account_of_key r.0) (kind_at b (account_of_key r.0)) k r.1 ++ all_bought b k rs

-- how far the final price passes a cash option's strike in its favour; nothing for any other series
abbrev pub payoff_at : Book → Series → ℕ
payoff_at b x = payoff (series_kind x) x.strike (final_of (terms_at b (future_key x.month)))

abbrev pub lapses_at : Series → ℕ → Bool
lapses_at x level = lapses (series_kind x) x.strike level

-- the sides that a call charges, in their order
abbrev pub charged : Book → Call → List Side
charged b (admit a h) = []
charged b (list x v) = []
charged b (trade t) = trade_side t t.buyer (kind_at b t.buyer) ∷ trade_side t t.seller (kind_at b t.seller) ∷ []
charged b (close x a k) = []
charged b (mark m x) = []
charged b (delta x d) = []
charged b (enter m f x) = []
charged b (exercise x level) = cond (lapses_at x level) [] (all_bought b (series_kind x) (in_series (key_of x) b.positions))
charged b (settle x) = cond (nat_lt 0 (payoff_at b x)) (all_bought b (series_kind x) (in_series (key_of x) b.positions)) []

-- ---- fees
abbrev pub fee_of : Option ℕ → ℤ
fee_of (Some fee) = pos fee
fee_of None = pos 0

-- the fees of some sides, added up
abbrev pub fees_of : Pricing → List Side → ℤ
fees_of p [] = pos 0
fees_of p (s ∷ ss) = fee_of (p s) +ℤ fees_of p ss

-- an account's fees for what it has bought
unfoldable pub bought_fees : Pricing → ℕ → AccountKind → SeriesKind → Position → ℤ
bought_fees p a h k l = fees_of p (bought_sides a h k l)
