-- What code may rely on in every book that a run leads to.
use Rattle.std.specs.Prelude.{◌≡◌, ℕ, ◌<◌, ◌≤◌, true, false, List, unsigned_abs}
use Rattle.positions.specs.Positions.{flat, in_range}
use Rattle.positions.specs.Money.{balance_in}
use Rattle.ledger.specs.Calls.{Event}
use Rattle.positions.specs.Keys.{account_of_key}
use Rattle.ledger.specs.Numbers.{future_of_key}
use Rattle.ledger.specs.Rows.{present, Each}
use Rattle.ledger.specs.Book.{Spaces, Book, opened, cash_at, terms_at, value_at, state_at, position_at, is_done, final_of}
use Rattle.ledger.specs.Judge.{fits}
use Rattle.ledger.specs.Runs.{run}

pub record Sound (b : Book) : Type 0 where
  -- amounts and prices stay small
  pub cash : (a : ℕ) → a < 65536 → balance_in (cash_at b a) ≡ true
  pub exchange : balance_in b.exchange ≡ true
  pub counts : (a s : ℕ) → a < 65536 → in_range (position_at b s a) ≡ true
  pub values : (s : ℕ) → unsigned_abs (value_at b s) ≤ 10000000
  pub finals : (s : ℕ) → final_of (terms_at b s) ≤ 10000000
  -- a position has its account and its series, which is not Done
  pub holders : (a s : ℕ) → a < 65536 → present b.accounts a ≡ false → position_at b s a ≡ flat
  pub listed : (a s : ℕ) → a < 65536 → present b.series s ≡ false → position_at b s a ≡ flat
  pub ended : (a s : ℕ) → a < 65536 → is_done (state_at b s) ≡ true → position_at b s a ≡ flat
  -- the future of a listed series' month is listed
  pub months : (s : ℕ) → present b.series s ≡ true → present b.series (future_of_key s) ≡ true
  -- no register has more rows than space
  pub room : fits b ≡ true

-- each row of a position has its account
abbrev pub Owned : Book → Type 0
Owned b = Each (λ k _. present b.accounts (account_of_key k) ≡ true) b.positions

abbrev pub SoundAfterEveryRun : Type 0
SoundAfterEveryRun = (f : ℕ) (z : Spaces) (es : List Event) → Sound (run (opened f z) es) × Owned (run (opened f z) es)
