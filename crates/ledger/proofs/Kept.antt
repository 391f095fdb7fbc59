-- What every accepted call keeps between the book and the journal, and small laws that the calls share.
use Rattle.std.proofs.Common.{◌≡◌, ℕ, ◌<◌, Bool, true, false, cond, eqb, ◌∷◌, ℤ, pos, ◌+ℤ◌, ◌-ℤ◌, sym, ◌∙◌, arith}
use lib.IntN.{+ℤ_idl}
use borrow.Author.Differences.{ints}
use Rattle.registers.specs.Rows.{Rows, Rising}
use Rattle.registers.specs.Sums.{total_ℤ}
use Rattle.terms.specs.declared.family.Family.{Family}
use Rattle.positions.specs.declared.position.Position.{Position}
use Rattle.positions.specs.Positions.{flat, units, is_flat}
use Rattle.ledger.specs.declared.rows.State.TheVariants.{Done}
use Rattle.ledger.specs.declared.rows.Terms.{Terms}
use Rattle.ledger.specs.Calls.{Call, Pricing}
use Rattle.positions.specs.Keys.{is_future_key, series_of_key}
use Rattle.ledger.specs.Numbers.{kind_of, on_future, kind_of_key, all_series}
use Rattle.ledger.specs.Rows.{at, present, change, Each, sum_below}
use Rattle.ledger.specs.Book.{Book, family_in, unlisted, kind_at, cash_at, terms_at, value_at, state_at, position_at, is_trading, is_done, final_of}
use Rattle.ledger.specs.Post.{stated}
use Rattle.ledger.specs.Ledger.{Journal, kind_in, final_in, given_in, position_in, net, fees}
use Rattle.ledger.proofs.RowLaws.{at_change, below_same}
use Rattle.ledger.proofs.PositionLaws.{units_in}
use Rattle.ledger.proofs.CashLaws.{cash_in}
use Rattle.ledger.proofs.Worth.{worth_then, holding, moving}

pub record Good (k : ℕ) (l : Position) : Type 0 where
  pub held : is_flat l ≡ false
  pub minis : on_future (kind_of (kind_of_key (series_of_key k))) ≡ true → l.minis ≡ pos 0
  pub inside : series_of_key k < all_series

abbrev pub NoMinis : ℕ → Position → Type 0
NoMinis k l = on_future (kind_of (kind_of_key (series_of_key k))) ≡ true → l.minis ≡ pos 0

pub record Kept (b : Book) (j : Journal) : Type 0 where
  pub kinds : (a : ℕ) → kind_at b a ≡ kind_in j a
  pub values : (s : ℕ) → value_at b s ≡ given_in j s
  pub finals : (s : ℕ) → is_future_key s ≡ true → is_trading (state_at b s) ≡ false → final_of (terms_at b s) ≡ final_in j s
  pub account_order : Rising 0 b.accounts
  pub series_order : Rising 0 b.series
  pub position_order : Rising 0 b.positions
  pub rows : Each Good b.positions
  pub counts : (a s : ℕ) → a < 65536 → position_at b s a ≡ position_in a s j
  pub unit : (a s : ℕ) → a < 65536 → units (position_in a s j) ≡ holding a s j
  pub level : (s : ℕ) → total_ℤ (units_in s) b.positions ≡ pos 0
  -- what is held in a series that is not Done is what the formula has
  pub options : (a s : ℕ) → is_future_key s ≡ false → is_done (state_at b s) ≡ false → holding a s j ≡ net a s j
  pub futures : (a s : ℕ) → is_future_key s ≡ true → is_done (state_at b s) ≡ false → holding a s j ≡ moving a s j
  pub still : (a s : ℕ) → is_future_key s ≡ false → moving a s j ≡ pos 0
  pub cash : (a : ℕ) → a < 65536 → cash_at b a ≡ worth_then (family_in b) a (given_in j) j -ℤ fees a j
  pub exchange : b.exchange ≡ sum_below 65536 (λ a. fees a j)
  pub conserved : total_ℤ cash_in b.accounts +ℤ b.exchange ≡ pos 0
  -- no position in a series that is not listed
  pub absent : (a s : ℕ) → a < 65536 → present b.series s ≡ false → position_in a s j ≡ flat

-- an accepted call, noted
abbrev pub on : Call → Pricing → Journal → Journal
on c p j = record { call = c; pricing = p; accepted = true } ∷ j

-- ---- terms
pub value_of : (c : Bool) (t u : Terms) → (cond c t u).value ≡ cond c t.value u.value
value_of c t u = grind arith

pub at_terms : (g : Terms → Terms) (n s : ℕ) (rs : Rows Terms) → at unlisted (change unlisted g n rs) s ≡ cond (eqb s n) (g (at unlisted rs n)) (at unlisted rs s)
at_terms g n s rs = grind (arith, at_change)

-- a series that is not Done after a change was not before
pub done_back : (g : Terms → Terms) (n s : ℕ) (rs : Rows Terms) → (is_done (g (at unlisted rs n)).state ≡ false → is_done (at unlisted rs n).state ≡ false)
    → is_done (at unlisted (change unlisted g n rs) s).state ≡ false → is_done (at unlisted rs s).state ≡ false
done_back g n s rs h e = grind (arith, at_terms)

-- a series that is not Done is not the one that has just ended
pub done_other : (n s : ℕ) (rs : Rows Terms) → is_done (at unlisted (change unlisted (stated Done) n rs) s).state ≡ false → eqb s n ≡ false
done_other n s rs e = grind (arith, at_terms)

-- the final price stays where the terms do
pub final_back : (g : Terms → Terms) (n s : ℕ) (rs : Rows Terms) (v : ℕ) → eqb s n ≡ false
    → (is_trading (at unlisted rs s).state ≡ false → final_of (at unlisted rs s) ≡ v)
    → is_trading (at unlisted (change unlisted g n rs) s).state ≡ false → final_of (at unlisted (change unlisted g n rs) s) ≡ v
final_back g n s rs v e h = grind (arith, at_terms)

-- ---- a call that brings no money
pub idle_cash : (x : ℤ) (f : Family) (a : ℕ) (now : ℕ → ℤ) (j : Journal) → x ≡ worth_then f a now j -ℤ fees a j → x ≡ (pos 0 +ℤ worth_then f a now j) -ℤ (pos 0 +ℤ fees a j)
idle_cash x f a now j e = omega (arith, ints)

pub idle_fees : (x : ℤ) (j : Journal) → x ≡ sum_below 65536 (λ a. fees a j) → x ≡ sum_below 65536 (λ a. pos 0 +ℤ fees a j)
idle_fees x j e = e ∙ below_same 65536 (λ a. fees a j) (λ a. pos 0 +ℤ fees a j) (λ a h. sym (+ℤ_idl (fees a j)))
