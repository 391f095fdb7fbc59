use Rattle.std.proofs.Common.{◌≡◌, ℕ, true, ap, ◌∙◌, ap₂}
use Rattle.std.proofs.lemmas.Bool.{cond-true, or_left}
use Rattle.registers.specs.Rows.{Rows, put}
use Rattle.registers.specs.Held.{rows_of}
use Rattle.ledger.specs.declared.rows.Account.{Account}
use Rattle.ledger.specs.Book.{nobody}
use Rattle.ledger.specs.Rows.{present, change}
use Rattle.ledger.proofs.RowLaws.{present_keep}
use Rattle.trading.proofs.post.post_accounts.Goals as goal

-- a row that is there stays when another is put in
still : (k j : ℕ) (v : Account) (rs : Rows Account) → present rs j ≡ true → present (put k v rs) j ≡ true
unfolding change
still k j v rs h = present_keep nobody (λ _. v) k j rs h

pub returns : goal.returns
returns c =
    let b = c.args.buyer.now in
    let s = c.args.seller.now in
    let rs = rows_of c.args.accounts.now in
    let first : rows_of c.put.new.self ≡ put b.side.account b.account rs =
    c.put.ensures.rows
    ∙ cond-true _ _ _ (or_left _ _ (ap (present rs) c.from.ensures ∙ c.requires.buyer))
    ∙ ap (λ (k : ℕ). put k b.account rs) c.from.ensures in
    let second =
    ap₂ present first c.from-2.ensures ∙ still b.side.account s.side.account b.account rs c.requires.seller in
    record {
      rows = c.put-2.ensures.rows
          ∙ cond-true _ _ _ (or_left _ _ second)
          ∙ ap₂ (λ (k : ℕ) (x : Rows Account). put k s.account x) c.from-2.ensures first;
      room = c.put-2.ensures.room ∙ c.put.ensures.room;
    }
