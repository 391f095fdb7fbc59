-- Amounts that the accounts of a series' positions get, tested one after the other and then paid.
use Rattle.std.specs.Prelude.{◌≡◌, ℕ, Bool, true, false, [], ◌∷◌, ℤ, ◌+ℤ◌, ◌*ℤ◌, Some, None, Ok, fold, Option}
use Rattle.terms.specs.declared.refusal.Reason.TheVariants.{AmountOutOfRange}
use Rattle.terms.specs.Refusals.{about}
use Rattle.registers.specs.Rows.{Rows, lookup}
use Rattle.positions.specs.declared.position.Position.{Position}
use Rattle.positions.specs.Positions.{units}
use Rattle.positions.specs.Money.{balance_in}
use Rattle.ledger.specs.declared.rows.Account.{Account}
use Rattle.positions.specs.Keys.{account_of_key}
use Rattle.ledger.specs.Judge.{Verdict, need}
use Rattle.ledger.specs.Post.{pay}
use Rattle.settling.specs.declared.gain.Gain.{Gain}

-- what a position gets
abbrev pub gains : Gain → Position → ℤ
gains g l = units l *ℤ g.cents

-- an account is there, and its balance stays in range
abbrev pub takes : Option Account → ℤ → Bool
takes None x = false
takes (Some c) x = balance_in (c.cash +ℤ x)

abbrev pub affords : Rows Account → ℕ → ℤ → Bool
affords accounts a x = takes (lookup accounts a) x

-- 14 for the first account that cannot take its amount
abbrev pub tested : {X : Type 0} → (X → ℤ) → Rows X → Rows Account → Verdict
tested f [] accounts = Ok tt
tested f (r ∷ rs) accounts =
    need (affords accounts (account_of_key r.0) (f r.1)) (about AmountOutOfRange (account_of_key r.0)) (tested f rs accounts)

-- each account can take its amount after the payments before
abbrev pub Ready : {X : Type 0} → (X → ℤ) → Rows X → Rows Account → Type 0
Ready f [] accounts = Unit {0}
Ready f (r ∷ rs) accounts =
    (affords accounts (account_of_key r.0) (f r.1) ≡ true) × Ready f rs (pay (account_of_key r.0) (f r.1) accounts)

abbrev pub pay_all : {X : Type 0} → (X → ℤ) → Rows X → Rows Account → Rows Account
pay_all f rs accounts = fold (λ cs r. pay (account_of_key r.0) (f r.1) cs) accounts rs
