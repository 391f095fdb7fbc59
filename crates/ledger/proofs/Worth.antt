-- The formula's sums: trades cancel, and a move of a mark moves the worth by the units that depend on it.
use Rattle.std.proofs.Common.{◌≡◌, ℕ, ◌*◌, Bool, true, false, cond, not, ◌&&◌, eqb, [], ◌∷◌, ℤ, pos, ◌+ℤ◌, ◌-ℤ◌, neg_ℤ, arith}
use Rattle.std.proofs.lemmas.Grind.{common_steps}
use borrow.Author.Differences.{ints}
use Rattle.std.proofs.lemmas.Bool.Decides.{nat_tests}
use Rattle.terms.specs.declared.family.Family.{Family}
use Rattle.terms.specs.declared.kinds.SeriesKind.{SeriesKind}
use Rattle.positions.specs.Money.{amount, payoff}
use Rattle.positions.specs.Keys.{future_key}
use Rattle.ledger.specs.Calls.{Series, Trade, Call, admit, list, trade, close, mark, delta, enter, exercise, settle}
use Rattle.ledger.specs.Numbers.{series_kind, is_future, key_of}
use Rattle.ledger.specs.Charges.{lapses_at}
use Rattle.ledger.specs.Post.{traded, cash_of, turned}
use Rattle.ledger.specs.Ledger.{Journal, final_in, net_of, net}
use Rattle.ledger.proofs.Ring.{+-amount, neg_amount, zero_amount, bilinear}

-- the sum of the gains, each call with what stood in the journal before it
abbrev pub gain_then : Call → Family → ℕ → (ℕ → ℤ) → Journal → ℤ
gain_then (admit c h) f a now j = pos 0
gain_then (list x v) f a now j = pos 0
gain_then (trade t) f a now j =
    cond (is_future (series_kind t.series))
    (amount f (net_of a t) (now (key_of t.series) -ℤ pos t.price))
    (neg_ℤ (amount f (net_of a t) (pos t.price)))
gain_then (close x c n) f a now j = pos 0
gain_then (mark m x) f a now j = pos 0
gain_then (delta x d) f a now j = pos 0
gain_then (enter m g x) f a now j = pos 0
gain_then (exercise x level) f a now j =
    cond (lapses_at x level) (pos 0) (turned (series_kind x) (amount f (net a (key_of x) j) (now (future_key x.month) -ℤ pos (100 * x.strike))))
gain_then (settle x) f a now j =
    cond (is_future (series_kind x)) (pos 0) (amount f (net a (key_of x) j) (pos (payoff (series_kind x) x.strike (final_in j (future_key x.month)))))

abbrev pub worth_then : Family → ℕ → (ℕ → ℤ) → Journal → ℤ
worth_then f a now [] = pos 0
worth_then f a now (e ∷ j) = cond e.accepted (gain_then e.call f a now j) (pos 0) +ℤ worth_then f a now j

-- units held: what is dealt, and what exercise moves to the future, until the series ends
abbrev pub holding_by : Call → ℕ → ℕ → (ℕ → ℤ) → ℤ
holding_by (admit c h) a s held = held s
holding_by (list x v) a s held = held s
holding_by (trade t) a s held = cond (eqb s (key_of t.series)) (net_of a t) (pos 0) +ℤ held s
holding_by (close x c n) a s held = held s
holding_by (mark m x) a s held = held s
holding_by (delta x d) a s held = held s
holding_by (enter m f x) a s held = held s
holding_by (exercise x level) a s held =
    cond (eqb s (key_of x)) (pos 0) (cond (not (lapses_at x level) && eqb s (future_key x.month)) (held s +ℤ turned (series_kind x) (held (key_of x))) (held s))
holding_by (settle x) a s held = cond (eqb s (key_of x)) (pos 0) (held s)

abbrev pub holding : ℕ → ℕ → Journal → ℤ
holding a s [] = pos 0
holding a s (e ∷ j) = cond e.accepted (holding_by e.call a s (λ n. holding a n j)) (holding a s j)

-- units whose worth moves with the mark of the future with the key m
abbrev pub moving_by : Call → ℕ → ℕ → Journal → ℤ
moving_by (admit c h) a m j = pos 0
moving_by (list x v) a m j = pos 0
moving_by (trade t) a m j = cond (is_future (series_kind t.series)) (cond (eqb m (key_of t.series)) (net_of a t) (pos 0)) (pos 0)
moving_by (close x c n) a m j = pos 0
moving_by (mark k x) a m j = pos 0
moving_by (delta x d) a m j = pos 0
moving_by (enter k g x) a m j = pos 0
moving_by (exercise x level) a m j = cond (lapses_at x level) (pos 0) (cond (eqb m (future_key x.month)) (turned (series_kind x) (net a (key_of x) j)) (pos 0))
moving_by (settle x) a m j = pos 0

abbrev pub moving : ℕ → ℕ → Journal → ℤ
moving a m [] = pos 0
moving a m (e ∷ j) = cond e.accepted (moving_by e.call a m j) (pos 0) +ℤ moving a m j

-- ---- a trade, side by side
pub trade_gain : (t : Trade) (f : Family) (a : ℕ) (now : ℕ → ℤ) (j : Journal)
    → gain_then (trade t) f a now j ≡ cond (eqb a t.buyer) (cash_of f (now (key_of t.series)) t) (pos 0) -ℤ cond (eqb a t.seller) (cash_of f (now (key_of t.series)) t) (pos 0)
unfolding cash_of
trade_gain t f a now j = ways (is_future (series_kind t.series)) (eqb a t.buyer) (eqb a t.seller)
  where
    T : ℤ
    T = traded t

    P : ℤ
    P = now (key_of t.series) -ℤ pos t.price

    Q : ℤ
    Q = pos t.price

    S : Bool → Bool → ℤ
    S y z = cond y T (pos 0) -ℤ cond z T (pos 0)

    X : Bool → ℤ
    X c = cond c (amount f T P) (neg_ℤ (amount f T Q))

    ways : (c y z : Bool) → cond c (amount f (S y z) P) (neg_ℤ (amount f (S y z) Q)) ≡ cond y (X c) (pos 0) -ℤ cond z (X c) (pos 0)
    ways true true true = simp bilinear (omega (arith, ints))
    ways true true false = simp bilinear (omega (arith, ints))
    ways true false true = simp bilinear (omega (arith, ints))
    ways true false false = simp bilinear (omega (arith, ints))
    ways false true true = simp bilinear (omega (arith, ints))
    ways false true false = simp bilinear (omega (arith, ints))
    ways false false true = simp bilinear (omega (arith, ints))
    ways false false false = simp bilinear (omega (arith, ints))

-- ---- a move of a mark
pub turned-amount : (f : Family) (k : SeriesKind) (n p : ℤ) → turned k (amount f n p) ≡ amount f (turned k n) p
turned-amount f k n p = grind (arith, neg_amount)

pub eqb_sym : (a b : ℕ) → eqb a b ≡ eqb b a
eqb_sym a b = grind (arith, nat_tests)

-- n units at the mark of s, where the mark of m moves
one_move : (f : Family) (now : ℕ → ℤ) (m : ℕ) (x : ℤ) (s : ℕ) (n p : ℤ)
    → amount f n (cond (eqb s m) x (now s) -ℤ p) ≡ amount f n (now s -ℤ p) +ℤ amount f (cond (eqb m s) n (pos 0)) (x -ℤ now m)
one_move f now m x s n p = grind (arith, common_steps, bilinear)

pub worth_mark : (f : Family) (a : ℕ) (now : ℕ → ℤ) (m : ℕ) (x : ℤ) (j : Journal)
    → worth_then f a (λ s. cond (eqb s m) x (now s)) j ≡ worth_then f a now j +ℤ amount f (moving a m j) (x -ℤ now m)
worth_mark f a now m x [] = simp bilinear
worth_mark f a now m x (e ∷ j) = ways e.accepted e.call (worth_mark f a now m x j)
  where
    new : ℕ → ℤ
    new s = cond (eqb s m) x (now s)

    d : ℤ
    d = x -ℤ now m

    still : (v : ℤ) → v ≡ v +ℤ amount f (pos 0) d
    still v = simp bilinear (omega (arith, ints))

    trades : (c : Bool) (t : Trade) → cond c (amount f (net_of a t) (new (key_of t.series) -ℤ pos t.price)) (neg_ℤ (amount f (net_of a t) (pos t.price)))
        ≡ cond c (amount f (net_of a t) (now (key_of t.series) -ℤ pos t.price)) (neg_ℤ (amount f (net_of a t) (pos t.price)))
        +ℤ amount f (cond c (cond (eqb m (key_of t.series)) (net_of a t) (pos 0)) (pos 0)) d
    trades true t = one_move f now m x (key_of t.series) (net_of a t) (pos t.price)
    trades false t = still _

    exercises : (c : Bool) (y : Series) (n p : ℤ) → cond c (pos 0) (turned (series_kind y) (amount f n (new (future_key y.month) -ℤ p)))
        ≡ cond c (pos 0) (turned (series_kind y) (amount f n (now (future_key y.month) -ℤ p))) +ℤ amount f (cond c (pos 0) (cond (eqb m (future_key y.month)) (turned (series_kind y) n) (pos 0))) d
    exercises true y n p = still _
    exercises false y n p = rw (turned-amount f (series_kind y) n (new (future_key y.month) -ℤ p), turned-amount f (series_kind y) n (now (future_key y.month) -ℤ p)) (one_move f now m x (future_key y.month) (turned (series_kind y) n) p)

    by : (c : Call) → gain_then c f a new j ≡ gain_then c f a now j +ℤ amount f (moving_by c a m j) d
    by (admit c h) = still _
    by (list y v) = still _
    by (trade t) = trades (is_future (series_kind t.series)) t
    by (close y c n) = still _
    by (mark k y) = still _
    by (delta y v) = still _
    by (enter k g y) = still _
    by (exercise y level) = exercises (lapses_at y level) y (net a (key_of y) j) (pos (100 * y.strike))
    by (settle y) = still _

    ways : (b : Bool) (c : Call) → worth_then f a new j ≡ worth_then f a now j +ℤ amount f (moving a m j) d
        → cond b (gain_then c f a new j) (pos 0) +ℤ worth_then f a new j ≡ (cond b (gain_then c f a now j) (pos 0) +ℤ worth_then f a now j) +ℤ amount f (cond b (moving_by c a m j) (pos 0) +ℤ moving a m j) d
    ways true c h = rw (+-amount f (moving_by c a m j) (moving a m j) d) (omega (arith, ints, by c))
    ways false c h = rw (+-amount f (pos 0) (moving a m j) d, zero_amount f d) (omega (arith, ints))
