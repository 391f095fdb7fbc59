-- The book as a model: three registers, the space that they have, and the exchange's cash.
use Rattle.std.specs.Prelude.{ℕ, Bool, true, false, cond, [], ℤ, pos, ◌*ℤ◌, unsigned_abs}
use Rattle.registers.specs.Rows.{Rows}
use Rattle.registers.specs.Sums.{total_ℤ}
use Rattle.terms.specs.declared.family.Family.{Family}
use Rattle.terms.specs.declared.kinds.AccountKind.{AccountKind}
use Rattle.terms.specs.declared.kinds.AccountKind.TheVariants.{Client}
use Rattle.positions.specs.declared.position.Position.{Position}
use Rattle.positions.specs.Positions.{flat, units}
use Rattle.positions.specs.Keys.{future_key, is_future_key, line_key, series_of_key}
use Rattle.ledger.specs.declared.rows.Account.{Account}
use Rattle.ledger.specs.declared.rows.State.{State}
use Rattle.ledger.specs.declared.rows.State.TheVariants.{Trading, Fixed, Done}
use Rattle.ledger.specs.declared.rows.Terms.{Terms}
use Rattle.ledger.specs.Numbers.{family_of}
use Rattle.ledger.specs.Rows.{at, held_by}

-- for how many rows each register has space
pub record Spaces : Type 0 where
  pub accounts : ℕ
  pub series : ℕ
  pub positions : ℕ

pub record Book : Type 0 where
  -- the number of its family
  pub family : ℕ
  pub spaces : Spaces
  pub accounts : Rows Account
  pub series : Rows Terms
  pub positions : Rows Position
  pub exchange : ℤ

abbrev pub opened : ℕ → Spaces → Book
opened f z = record { family = f; spaces = z; accounts = []; series = []; positions = []; exchange = pos 0 }

-- the same book with other rows and another balance of the exchange
abbrev pub book : Book → Rows Account → Rows Terms → Rows Position → ℤ → Book
book b accounts series positions exchange =
    record { family = b.family; spaces = b.spaces; accounts = accounts; series = series; positions = positions; exchange = exchange }

abbrev pub family_in : Book → Family
family_in b = family_of b.family

-- ---- what is read where there is no row
abbrev pub nobody : Account
nobody = record { kind = Client; cash = pos 0 }

abbrev pub unlisted : Terms
unlisted = record { value = pos 0; state = Trading }

abbrev pub kind_at : Book → ℕ → AccountKind
kind_at b a = (at nobody b.accounts a).kind

abbrev pub cash_at : Book → ℕ → ℤ
cash_at b a = (at nobody b.accounts a).cash

abbrev pub terms_at : Book → ℕ → Terms
terms_at b s = at unlisted b.series s

abbrev pub value_at : Book → ℕ → ℤ
value_at b s = (terms_at b s).value

abbrev pub state_at : Book → ℕ → State
state_at b s = (terms_at b s).state

abbrev pub position_at : Book → ℕ → ℕ → Position
position_at b s a = at flat b.positions (line_key s a)

-- ---- states
abbrev pub is_trading : State → Bool
is_trading Trading = true
is_trading (Fixed x) = false
is_trading Done = false

abbrev pub is_fixed : State → Bool
is_fixed Trading = false
is_fixed (Fixed x) = true
is_fixed Done = false

abbrev pub is_done : State → Bool
is_done Trading = false
is_done (Fixed x) = false
is_done Done = true

abbrev pub month_at : Book → ℕ → State
month_at b m = state_at b (future_key m)

abbrev pub final_by : State → ℤ → ℕ
final_by Trading v = unsigned_abs v
final_by (Fixed x) v = x
final_by Done v = unsigned_abs v

-- the final price of a month that is Fixed or Done, by its future: a future that is Done has it as its mark
abbrev pub final_of : Terms → ℕ
final_of t = final_by t.state t.value

-- ---- deltas
-- a future's is 10,000 ten-thousandths, an option's what it was given
abbrev pub delta_at : Book → ℕ → ℤ
delta_at b s = cond (is_future_key s) (pos 10000) (value_at b s)

-- so many units at a delta
unfoldable pub weight : ℤ → ℤ → ℤ
weight n d = n *ℤ d

-- an account's delta: units × delta, added up over its positions
unfoldable pub delta_of : Book → ℕ → ℤ
delta_of b a = total_ℤ (λ k p. weight (units p) (delta_at b (series_of_key k))) (held_by a b.positions)
