-- The contracts that accounts have left at the reduced rate.
use Rattle.std.specs.Prelude.{◌≡◌, ℕ, ◌-◌, ◌≤◌, min, cond, ◌⊎◌, List, [], ◌∷◌, ◌++◌, get_or, length, position, Some, None, Ok, Err, Option, Result, ◌==◌, slice_index_or, slice_set}
use Rattle.terms.specs.declared.refusal.Reason.TheVariants.{OutOfRange, AllowanceFull}
use Rattle.terms.specs.declared.refusal.Refusal.{Refusal}
use Rattle.terms.specs.Refusals.{plain}
use Rattle.tariffs.specs.declared.entries.Entry.{Entry}
use Rattle.tariffs.specs.declared.entries.Entries.{Entries}

abbrev pub entry : ℕ → ℕ → Entry
entry account left = record { account = account; left = left }

-- the entries in their order
abbrev pub entries : List Entry → Entries
entries es = record { list = record { items = es } }

-- the first place that has the account
abbrev pub place_in : List Entry → ℕ → Option ℕ
place_in es a = position (λ e. e.account == a) es

abbrev pub entry_of : Entries → ℕ → Option ℕ
entry_of t a = place_in t.list.items a

-- what a place has left; an account without a place has none
abbrev pub left_at : List Entry → Option ℕ → ℕ
left_at es None = 0
left_at es (Some i) = (get_or es i (entry 0 0)).left

-- what the account has left
abbrev pub left : Entries → ℕ → ℕ
left t a = left_at t.list.items (entry_of t a)

-- up to n contracts taken off an entry
abbrev pub lowered : Entry → ℕ → Entry
lowered e n = entry e.account (e.left - min n e.left)

abbrev pub lowered_at : List Entry → Option ℕ → ℕ → List Entry
lowered_at es None n = es
lowered_at es (Some i) n = slice_set es i (lowered (slice_index_or es i (entry 0 0)) n)

-- the account's entry lowered by up to n
abbrev pub spent : Entries → ℕ → ℕ → Entries
spent t a n = entries (lowered_at t.list.items (entry_of t a) n)

-- accounts 0 to 65,534, and 0 to 1,000,000 contracts
pub record LeftRange (account amount : ℕ) : Type 0 where
  pub of_account : account ≤ 65534
  pub of_amount : amount ≤ 1000000

-- all 64 places are used, and none by this account
pub record Full (t : Entries) (account : ℕ) : Type 0 where
  pub not_there : entry_of t account ≡ None
  pub all_used : length t.list.items ≡ 64

-- the account's place, or one more
abbrev pub placed_in : List Entry → Option ℕ → Entry → List Entry
placed_in es None e = es ++ e ∷ []
placed_in es (Some i) e = slice_set es i e

-- the table n is t with this entry, in place of any that the account had; no other account's reads otherwise
pub record Settled (t : Entries) (account amount : ℕ) (n : Entries) : Type 0 where
  pub range : LeftRange account amount
  pub room : Full t account → ⊥
  pub places : n.list.items ≡ placed_in t.list.items (entry_of t account) (entry account amount)
  pub reads : (b : ℕ) → left n b ≡ cond (account == b) amount (left t b)

-- 4 out of range, and otherwise 12 in layer 3 for a 65th account; then nothing changes
abbrev pub Settles : Entries → ℕ → ℕ → Entries → Result (Unit {0}) Refusal → Type 0
Settles t account amount n (Ok _) = Settled t account amount n
Settles t account amount n (Err e) =
    (n ≡ t)
    × (((LeftRange account amount → ⊥) × (e ≡ plain OutOfRange))
    ⊎ (LeftRange account amount × Full t account × (e ≡ plain AllowanceFull)))
