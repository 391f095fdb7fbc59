-- The ledger: what a journal of calls says of each account and series. It is fed each call's arguments, whether it was accepted and the
-- pricing before it, and nothing of the book.
use Rattle.std.specs.Prelude.{ℕ, ◌*◌, Bool, cond, not, ◌&&◌, List, [], ◌∷◌, ℤ, pos, ◌+ℤ◌, ◌-ℤ◌, neg_ℤ, ◌==◌, nat_lt}
use Rattle.terms.specs.declared.family.Family.{Family}
use Rattle.terms.specs.declared.kinds.AccountKind.{AccountKind}
use Rattle.terms.specs.declared.kinds.AccountKind.TheVariants.{Client}
use Rattle.terms.specs.declared.kinds.Size.{Size}
use Rattle.positions.specs.declared.position.Position.{Position}
use Rattle.positions.specs.Positions.{flat, units, dealt, closed}
use Rattle.positions.specs.Money.{amount, payoff}
use Rattle.positions.specs.Keys.{future_key, is_future_key}
use Rattle.ledger.specs.Calls.{Trade, Call, admit, list, trade, close, mark, delta, enter, exercise, settle, Pricing}
use Rattle.ledger.specs.Numbers.{series_kind, size_of, account_kind_of, is_future, key_of, all_series}
use Rattle.ledger.specs.Rows.{sum_below}
use Rattle.ledger.specs.Book.{weight}
use Rattle.ledger.specs.Charges.{trade_side, lapses_at, fee_of, bought_fees}
use Rattle.ledger.specs.Post.{traded, turned, assigned}

pub record Entry : Type 0 where
  pub call : Call
  pub pricing : Pricing
  pub accepted : Bool

-- the latest entry stands first
abbrev pub Journal : Type 0
Journal = List Entry

-- ---- what the calls last gave
-- an account's kind
abbrev pub kind_by : Call → ℕ → AccountKind → AccountKind
kind_by (admit c h) a k = cond (a == c) (account_kind_of h) k
kind_by (list x v) a k = k
kind_by (trade t) a k = k
kind_by (close x c n) a k = k
kind_by (mark m x) a k = k
kind_by (delta x d) a k = k
kind_by (enter m f x) a k = k
kind_by (exercise x level) a k = k
kind_by (settle x) a k = k

abbrev pub kind_in : Journal → ℕ → AccountKind
kind_in [] a = Client
kind_in (e ∷ j) a = cond e.accepted (kind_by e.call a (kind_in j a)) (kind_in j a)

-- the final price of the future s: what enter gave its month
abbrev pub final_by : Call → ℕ → ℕ → ℕ
final_by (admit c h) s v = v
final_by (list x w) s v = v
final_by (trade t) s v = v
final_by (close x c n) s v = v
final_by (mark m x) s v = v
final_by (delta x d) s v = v
final_by (enter m f x) s v = cond (s == future_key m) x v
final_by (exercise x level) s v = v
final_by (settle x) s v = v

abbrev pub final_in : Journal → ℕ → ℕ
final_in [] s = 0
final_in (e ∷ j) s = cond e.accepted (final_by e.call s (final_in j s)) (final_in j s)

-- a future's mark now: what list, mark or settle last gave it; an option's delta: what list or delta last gave it
abbrev pub given_by : Call → ℕ → ℤ → (ℕ → ℕ) → ℤ
given_by (admit c h) s v final = v
given_by (list x w) s v final = cond (s == key_of x) w v
given_by (trade t) s v final = v
given_by (close x c n) s v final = v
given_by (mark m x) s v final = cond (s == future_key m) (pos x) v
given_by (delta x d) s v final = cond (s == key_of x) d v
given_by (enter m f x) s v final = v
given_by (exercise x level) s v final = v
given_by (settle x) s v final = cond (is_future (series_kind x) && s == key_of x) (pos (final (key_of x))) v

abbrev pub given_in : Journal → ℕ → ℤ
given_in [] s = pos 0
given_in (e ∷ j) s = cond e.accepted (given_by e.call s (given_in j s) (final_in j)) (given_in j s)

-- ---- counts
-- a deal in an account of that kind, if it is a party to it
abbrev pub dealt_if : Bool → AccountKind → Size → ℤ → Position → Position
dealt_if c h z n l = cond c (dealt h z n l) l

-- the fulls and minis of the account a, of the kind h, in the series s, where it has `held n` in each series n before the call
abbrev pub position_by : Call → ℕ → ℕ → AccountKind → (ℕ → Position) → Position
position_by (admit c k) a s h held = held s
position_by (list x w) a s h held = held s
position_by (trade t) a s h held =
    cond (s == key_of t.series)
    (dealt_if (a == t.seller) h (size_of t.size) (neg_ℤ (pos t.count)) (dealt_if (a == t.buyer) h (size_of t.size) (pos t.count) (held s)))
    (held s)
position_by (close x c k) a s h held = cond (s == key_of x && a == c) (closed k (held s)) (held s)
position_by (mark m x) a s h held = held s
position_by (delta x d) a s h held = held s
position_by (enter m f x) a s h held = held s
position_by (exercise x level) a s h held =
    cond (s == key_of x) flat
    (cond (not (lapses_at x level) && s == future_key x.month) (assigned h (turned (series_kind x) (held (key_of x)).fulls) (held s)) (held s))
position_by (settle x) a s h held = cond (s == key_of x) flat (held s)

abbrev pub position_in : ℕ → ℕ → Journal → Position
position_in a s [] = flat
position_in a s (e ∷ j) = cond e.accepted (position_by e.call a s (kind_in j a) (λ n. position_in a n j)) (position_in a s j)

-- ---- money
-- units that an account bought, less units that it sold, in a trade
abbrev pub net_of : ℕ → Trade → ℤ
net_of a t = cond (a == t.buyer) (traded t) (pos 0) -ℤ cond (a == t.seller) (traded t) (pos 0)

abbrev pub net_by : Call → ℕ → ℕ → ℤ
net_by (admit c h) a s = pos 0
net_by (list x v) a s = pos 0
net_by (trade t) a s = cond (s == key_of t.series) (net_of a t) (pos 0)
net_by (close x c n) a s = pos 0
net_by (mark m x) a s = pos 0
net_by (delta x d) a s = pos 0
net_by (enter m f x) a s = pos 0
net_by (exercise x level) a s = pos 0
net_by (settle x) a s = pos 0

-- net units: units bought less units sold, over the accepted trades in a series
abbrev pub net : ℕ → ℕ → Journal → ℤ
net a s [] = pos 0
net a s (e ∷ j) = cond e.accepted (net_by e.call a s) (pos 0) +ℤ net a s j

-- what an accepted call is worth to the account a, at marks `now`, net units `net` and final prices `final`
abbrev pub gain_by : Call → Family → ℕ → (ℕ → ℤ) → (ℕ → ℤ) → (ℕ → ℕ) → ℤ
gain_by (admit c h) f a now net final = pos 0
gain_by (list x v) f a now net final = pos 0
-- a trade in a future: units × cents × (mark now − price); an option trade: −units × cents × premium
gain_by (trade t) f a now net final =
    cond (is_future (series_kind t.series))
    (amount f (net_of a t) (now (key_of t.series) -ℤ pos t.price))
    (neg_ℤ (amount f (net_of a t) (pos t.price)))
gain_by (close x c n) f a now net final = pos 0
gain_by (mark m x) f a now net final = pos 0
gain_by (delta x d) f a now net final = pos 0
gain_by (enter m g x) f a now net final = pos 0
-- an exercised series: net units × cents × (mark now − 100 × strike), negated for a put
gain_by (exercise x level) f a now net final =
    cond (lapses_at x level) (pos 0) (turned (series_kind x) (amount f (net (key_of x)) (now (future_key x.month) -ℤ pos (100 * x.strike))))
-- a settled cash option: net units × cents × payoff
gain_by (settle x) f a now net final =
    cond (is_future (series_kind x)) (pos 0) (amount f (net (key_of x)) (pos (payoff (series_kind x) x.strike (final (future_key x.month)))))

abbrev pub gains : Family → ℕ → (ℕ → ℤ) → (ℕ → ℤ) → (ℕ → ℕ) → Journal → ℤ
gains f a now net final [] = pos 0
gains f a now net final (e ∷ j) = cond e.accepted (gain_by e.call f a now net final) (pos 0) +ℤ gains f a now net final j

-- the sum over the journal, at the marks, the net units and the final prices that the whole journal gives
unfoldable pub worth : Family → ℕ → Journal → ℤ
worth f a j = gains f a (given_in j) (λ s. net a s j) (final_in j) j

-- an account's fees in a call, as the pricing gave them; at exercise and settle for the ledger's bought counts before the call
abbrev pub fee_by : Call → Pricing → ℕ → Journal → ℤ
fee_by (admit c h) p a j = pos 0
fee_by (list x v) p a j = pos 0
fee_by (trade t) p a j =
    cond (a == t.buyer) (fee_of (p (trade_side t t.buyer (kind_in j t.buyer)))) (pos 0)
    +ℤ cond (a == t.seller) (fee_of (p (trade_side t t.seller (kind_in j t.seller)))) (pos 0)
fee_by (close x c n) p a j = pos 0
fee_by (mark m x) p a j = pos 0
fee_by (delta x d) p a j = pos 0
fee_by (enter m f x) p a j = pos 0
fee_by (exercise x level) p a j = cond (lapses_at x level) (pos 0) (bought_fees p a (kind_in j a) (series_kind x) (position_in a (key_of x) j))
fee_by (settle x) p a j =
    cond (nat_lt 0 (payoff (series_kind x) x.strike (final_in j (future_key x.month))))
    (bought_fees p a (kind_in j a) (series_kind x) (position_in a (key_of x) j))
    (pos 0)

abbrev pub fees : ℕ → Journal → ℤ
fees a [] = pos 0
fees a (e ∷ j) = cond e.accepted (fee_by e.call e.pricing a j) (pos 0) +ℤ fees a j

-- ---- deltas
abbrev pub delta_in : Journal → ℕ → ℤ
delta_in j s = cond (is_future_key s) (pos 10000) (given_in j s)

-- an account's delta, added up over every series that there can be
unfoldable pub exposure : Journal → ℕ → ℤ
exposure j a = sum_below all_series (λ s. weight (units (position_in a s j)) (delta_in j s))
