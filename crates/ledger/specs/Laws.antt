-- The law of whole runs.
use Rattle.std.specs.Prelude.{◌≡◌, ℕ, ◌<◌, ◌≤◌, max, Bool, true, false, List, [], ◌∷◌, ◌++◌, pos, ◌+ℤ◌, ◌-ℤ◌, Ok, Err, unsigned_abs}
use Rattle.registers.specs.Rows.{Rising}
use Rattle.registers.specs.Sums.{total_ℤ}
use Rattle.terms.specs.declared.refusal.Refusal.{Refusal}
use Rattle.terms.specs.declared.kinds.AccountKind.{AccountKind}
use Rattle.terms.specs.declared.kinds.AccountKind.TheVariants.{House, Maker, Client}
use Rattle.positions.specs.declared.position.Position.{Position}
use Rattle.positions.specs.Positions.{units, is_flat, settled, closed, closable}
use Rattle.ledger.specs.Calls.{Call, admit, list, trade, close, mark, delta, enter, exercise, settle, Event}
use Rattle.ledger.specs.Numbers.{family_of}
use Rattle.ledger.specs.Rows.{in_series, Each, sum_below}
use Rattle.ledger.specs.Book.{Spaces, Book, opened, family_in, cash_at, position_at}
use Rattle.ledger.specs.Judge.{accepted, limit}
use Rattle.ledger.specs.Runs.{judge, step, run}
use Rattle.ledger.specs.Ledger.{Entry, Journal, position_in, worth, fees, exposure}

-- what the ledger is told of an event
abbrev pub noted : Event → Bool → Entry
noted e c = record { call = e.call; pricing = e.pricing; accepted = c }

-- the journal of a run, on top of an earlier one
unfoldable pub journal : Book → List Event → Journal → Journal
journal b [] j = j
journal b (e ∷ es) j = journal (step b e) es (noted e (accepted (judge b e)) ∷ j)

abbrev pub Held : ℕ → Position → Type 0
Held k p = is_flat p ≡ false

-- ---- a book and the journal of the calls that led to it
pub record Balanced (b : Book) (j : Journal) : Type 0 where
  -- in each series every account's fulls and minis are the ledger's
  pub counts : (a s : ℕ) → a < 65536 → position_at b s a ≡ position_in a s j
  -- and the units of all accounts add up to zero, in the book and in the ledger
  pub level : (s : ℕ) → total_ℤ (λ _ p. units p) (in_series s b.positions) ≡ pos 0
  pub even : (s : ℕ) → sum_below 65536 (λ a. units (position_in a s j)) ≡ pos 0
  -- each account's cash is the formula's, the exchange has all fees, and all balances add up to zero
  pub cash : (a : ℕ) → a < 65536 → cash_at b a ≡ worth (family_in b) a j -ℤ fees a j
  pub exchange : b.exchange ≡ sum_below 65536 (λ a. fees a j)
  pub conserved : total_ℤ (λ _ c. c.cash) b.accounts +ℤ b.exchange ≡ pos 0
  -- the keys of each register rise, and no position counts for nothing
  pub account_order : Rising 0 b.accounts
  pub series_order : Rising 0 b.series
  pub position_order : Rising 0 b.positions
  pub held : Each Held b.positions

-- ---- limits
-- a call that takes no delta past its limit: any but delta, exercise and settle
abbrev pub Quiet : Call → Type 0
Quiet (admit a h) = Unit {0}
Quiet (list x v) = Unit {0}
Quiet (trade t) = Unit {0}
Quiet (close x a k) = Unit {0}
Quiet (mark m x) = Unit {0}
Quiet (delta x d) = ⊥
Quiet (enter m f x) = Unit {0}
Quiet (exercise x level) = ⊥
Quiet (settle x) = ⊥

abbrev pub AllQuiet : List Event → Type 0
AllQuiet [] = Unit {0}
AllQuiet (e ∷ es) = Quiet e.call × AllQuiet es

-- from the journal i to the journal j an account's delta did not rise above the greater of its limit and what it was at i
abbrev pub Limited : ℕ → ℕ → Journal → Journal → Type 0
Limited f a i j = unsigned_abs (exposure j a) ≤ max (limit (family_of f)) (unsigned_abs (exposure i a))

-- ---- for every opening and every list of events, refused ones among them
pub record Lawful (f : ℕ) (z : Spaces) : Type 0 where
  pub balanced : (es : List Event) → Balanced (run (opened f z) es) (journal (opened f z) es [])
  -- after any events es, through any events among which there is no delta, exercise or settle
  pub limited : (es fs : List Event) → AllQuiet fs → (a : ℕ) → a < 65536
      → Limited f a (journal (opened f z) es []) (journal (opened f z) (es ++ fs) [])

abbrev pub BalancedAfterEveryRun : Type 0
BalancedAfterEveryRun = (f : ℕ) (z : Spaces) → Lawful f z

-- ---- smaller laws
-- q is p after a close of the largest k that there is
pub record Largest (p q : Position) : Type 0 where
  pub k : ℕ
  pub is : q ≡ closed k p
  pub can : closable k p ≡ true
  pub largest : (i : ℕ) → closable i p ≡ true → i ≤ k

-- house and maker accounts are closed by themselves as far as they can be, clients not at all; neither changes units
abbrev pub Offsets : AccountKind → Position → Position → Type 0
Offsets House p q = Largest p q
Offsets Maker p q = Largest p q
Offsets Client p q = q ≡ p

pub record OffsetLaws : Type 0 where
  pub largest : (h : AccountKind) (p : Position) → Offsets h p (settled h p)
  pub offset_units : (h : AccountKind) (p : Position) → units (settled h p) ≡ units p
  pub close_units : (k : ℕ) (p : Position) → units (closed k p) ≡ units p

pub record EventLaws : Type 0 where
  -- a refused event changes nothing, and is noted as refused
  pub refused : (b : Book) (e : Event) (r : Refusal) → judge b e ≡ Err r → step b e ≡ b
  pub noted_refused : (b : Book) (e : Event) (r : Refusal) (j : Journal) → judge b e ≡ Err r → journal b (e ∷ []) j ≡ noted e false ∷ j
  -- an accepted one adds its entry
  pub noted_accepted : (b : Book) (e : Event) (j : Journal) → judge b e ≡ Ok tt → journal b (e ∷ []) j ≡ noted e true ∷ j
  -- equal events do equal things to equal books
  pub same : (b c : Book) (e d : Event) → b ≡ c → e ≡ d → (judge b e ≡ judge c d) × (step b e ≡ step c d)
