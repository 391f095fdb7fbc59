-- What an accepted call has passed.
use Rattle.std.proofs.Common.{◌≡◌, ℕ, ◌<◌, ◌≤◌, Bool, true, false, ◌||◌, ℤ, None, Ok, Option, arith}
use Rattle.terms.specs.declared.kinds.Size.TheVariants.{Full}
use Rattle.terms.specs.declared.refusal.Reason.{Reason}
use Rattle.terms.specs.declared.refusal.Refusal.{Refusal}
use Rattle.positions.specs.Positions.{closable}
use Rattle.positions.specs.Money.{balance_in}
use Rattle.positions.specs.Keys.{future_key}
use Rattle.ledger.specs.Calls.{Series, Trade, Call, Pricing, admit, list, trade, close, mark, delta, enter, exercise, settle}
use Rattle.ledger.specs.Numbers.{size_of, series_kind, is_future, on_future, delta_range, first_in, key_of}
use Rattle.ledger.specs.Rows.{present}
use Rattle.ledger.specs.Book.{Book, state_at, position_at, is_trading, is_fixed, is_done, month_at}
use Rattle.ledger.specs.Judge.{Verdict, need, unless, also, within, fits, holder_in, overdrawn, judge_call}
use Rattle.ledger.proofs.KeyLaws.{InRange, in_range_lem, size_full, key_future}

-- ---- verdicts
pub need_so : (c : Bool) (e : Refusal) (v : Verdict) → need c e v ≡ Ok tt → (c ≡ true) × (v ≡ Ok tt)
unfolding need
need_so c e v h = grind arith

unless_so : (o : Option ℕ) (why : Reason) (v : Verdict) → unless o why v ≡ Ok tt → (o ≡ None) × (v ≡ Ok tt)
unfolding unless
unless_so o why v h = grind arith

pub also_so : (u v : Verdict) → also u v ≡ Ok tt → (u ≡ Ok tt) × (v ≡ Ok tt)
unfolding also
also_so u v h = grind arith

ruleset passing = (need_so, unless_so, also_so, in_range_lem, size_full, key_future)

-- ---- each call
pub record AdmitPassed (b : Book) (a h : ℕ) (c : Book) : Type 0 where
  pub fresh : present b.accounts a ≡ false
  pub room : fits c ≡ true

pub record ListPassed (b : Book) (x : Series) (v : ℤ) (c : Book) : Type 0 where
  pub range : InRange x
  pub first : first_in (series_kind x) v ≡ true
  pub fresh : present b.series (key_of x) ≡ false
  pub month : (is_future (series_kind x) || present b.series (future_key x.month)) ≡ true
  pub room : fits c ≡ true

pub record TradePassed (b : Book) (t : Trade) (c : Book) : Type 0 where
  pub range : InRange t.series
  pub size : on_future (series_kind t.series) ≡ true → size_of t.size ≡ Full
  pub buyer : t.buyer < 65536
  pub seller : t.seller < 65536
  pub buyer_there : present b.accounts t.buyer ≡ true
  pub seller_there : present b.accounts t.seller ≡ true
  pub there : present b.series (key_of t.series) ≡ true
  pub live : is_done (state_at b (key_of t.series)) ≡ false
  pub buyer_within : within b c t.buyer ≡ true
  pub seller_within : within b c t.seller ≡ true
  pub room : fits c ≡ true
  pub buyer_holds : holder_in (key_of t.series) c t.buyer ≡ true
  pub seller_holds : holder_in (key_of t.series) c t.seller ≡ true
  pub exchange : balance_in c.exchange ≡ true

pub record ClosePassed (b : Book) (x : Series) (a k : ℕ) : Type 0 where
  pub range : InRange x
  pub account : a < 65536
  pub some : 1 ≤ k
  pub holder : present b.accounts a ≡ true
  pub there : present b.series (key_of x) ≡ true
  pub enough : closable k (position_at b (key_of x) a) ≡ true

pub record MarkPassed (b : Book) (m x : ℕ) (c : Book) : Type 0 where
  pub price : x ≤ 10000000
  pub there : present b.series (future_key m) ≡ true
  pub trading : is_trading (month_at b m) ≡ true
  pub paid : overdrawn b (future_key m) (future_key m) c ≡ None

pub record DeltaPassed (b : Book) (x : Series) (d : ℤ) : Type 0 where
  pub range : InRange x
  pub option : is_future (series_kind x) ≡ false
  pub small : delta_range (series_kind x) d ≡ true
  pub there : present b.series (key_of x) ≡ true

pub record EnterPassed (b : Book) (m x : ℕ) : Type 0 where
  pub price : x ≤ 10000000
  pub there : present b.series (future_key m) ≡ true
  pub trading : is_trading (month_at b m) ≡ true

pub record ExercisePassed (b : Book) (x : Series) (c : Book) : Type 0 where
  pub range : InRange x
  pub kind : on_future (series_kind x) ≡ true
  pub there : present b.series (key_of x) ≡ true
  pub month : present b.series (future_key x.month) ≡ true
  pub live : is_done (state_at b (key_of x)) ≡ false
  pub month_open : is_done (month_at b x.month) ≡ false
  pub room : fits c ≡ true
  pub paid : overdrawn b (key_of x) (future_key x.month) c ≡ None
  pub exchange : balance_in c.exchange ≡ true

pub record SettlePassed (b : Book) (x : Series) (c : Book) : Type 0 where
  pub range : InRange x
  pub there : present b.series (key_of x) ≡ true
  pub final : is_future (series_kind x) ≡ true → is_fixed (state_at b (key_of x)) ≡ true
  pub live : is_future (series_kind x) ≡ false → is_done (state_at b (key_of x)) ≡ false
  pub month : is_future (series_kind x) ≡ false → is_trading (month_at b x.month) ≡ false
  pub paid : overdrawn b (key_of x) (key_of x) c ≡ None
  pub exchange : balance_in c.exchange ≡ true

-- ---- any call
abbrev pub Passed : Book → Call → Book → Type 0
Passed b (admit a h) c = AdmitPassed b a h c
Passed b (list x v) c = ListPassed b x v c
Passed b (trade t) c = TradePassed b t c
Passed b (close x a k) c = ClosePassed b x a k
Passed b (mark m x) c = MarkPassed b m x c
Passed b (delta x d) c = DeltaPassed b x d
Passed b (enter m f x) c = EnterPassed b m x
Passed b (exercise x level) c = ExercisePassed b x c
Passed b (settle x) c = SettlePassed b x c

pub passed : (b : Book) (k : Call) (p : Pricing) (n : ℕ) (c : Book) → judge_call b k p n c ≡ Ok tt → Passed b k c
unfolding judge_call
passed b (admit a h) p n c e = grind (arith, passing)
passed b (list x v) p n c e = grind (arith, passing)
passed b (trade t) p n c e = grind (arith, passing)
passed b (close x a k) p n c e = grind (arith, passing)
passed b (mark m x) p n c e = grind (arith, passing)
passed b (delta x d) p n c e = grind (arith, passing)
passed b (enter m f x) p n c e = grind (arith, passing)
passed b (exercise x level) p n c e = grind (arith, passing)
passed b (settle x) p n c e = grind (arith, passing)
