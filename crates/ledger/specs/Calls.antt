-- The nine calls, with the numbers that offices send, and what comes with a call.
use Rattle.std.specs.Prelude.{ℕ, ℤ, Option}
use Rattle.tariffs.specs.declared.side.Side.{Side}

-- a series by its numbers: kind, month, strike
pub record Series : Type 0 where
  pub kind : ℕ
  pub month : ℕ
  pub strike : ℕ

-- so many contracts of a size, at a price in hundredths of a point
pub record Trade : Type 0 where
  pub series : Series
  pub size : ℕ
  pub buyer : ℕ
  pub seller : ℕ
  pub count : ℕ
  pub price : ℕ

pub data Call : Type 0 where
  -- an account, and its kind
  admit : ℕ → ℕ → Call
  -- a future with its first mark, an option with its first delta
  list : Series → ℤ → Call
  trade : Trade → Call
  -- in a series, of an account, so many fulls against five times as many minis
  close : Series → ℕ → ℕ → Call
  -- a month, and the new mark of its future
  mark : ℕ → ℕ → Call
  -- an option, and its new delta
  delta : Series → ℤ → Call
  -- a month, and the family and the final price of a closed fixing
  enter : ℕ → ℕ → ℕ → Call
  -- an option on the future, and the level at which it is exercised or lapses
  exercise : Series → ℕ → Call
  settle : Series → Call

-- what a tariff says of each side, in its standing before the call: a fee in cents, or no rate
abbrev pub Pricing : Type 0
Pricing = Side → Option ℕ

-- a call, the pricing before it, and how long the scratch is that comes with it
pub record Event : Type 0 where
  pub call : Call
  pub pricing : Pricing
  pub scratch : ℕ
