-- An outcome written to the book is the book after the trade.
use Rattle.std.proofs.Common.{◌≡◌, ℕ, ◌<◌, ◌≤◌, Bool, true, cond, ◌&&◌, leb, length, ℤ, ◌-ℤ◌, neg_ℤ, Ok, Err, fold, sym, ap, ◌∙◌, subst, ap₂}
use Rattle.std.proofs.lemmas.Bool.{and_parts, leb-true}
use Rattle.registers.specs.Rows.{Rows, Rising, put}
use Rattle.terms.specs.declared.refusal.Refusal.{Refusal}
use Rattle.tariffs.specs.declared.side.Side.{Side}
use Rattle.positions.specs.declared.position.Position.{Position}
use Rattle.ledger.specs.declared.rows.Account.{Account}
use Rattle.ledger.specs.Calls.{Trade, Pricing, Event, trade}
use Rattle.ledger.specs.Numbers.{key_of}
use Rattle.ledger.specs.Rows.{present, placed}
use Rattle.ledger.specs.Book.{Book}
use Rattle.ledger.specs.Charges.{charged}
use Rattle.ledger.specs.Post.{post, pay}
use Rattle.ledger.specs.Judge.{Verdict, accepted, fits}
use Rattle.ledger.specs.Runs.{judge, standing_after}
use Rattle.trading.specs.Parts.{allowed}
use Rattle.trading.specs.Found.{OutcomeOf, cash_in, fee_on, posted}
use Rattle.trading.specs.declared.found.Outcome.{Outcome}
use Rattle.ledger.proofs.Accepted.{need_so}
use Rattle.trading.proofs.Lines.{keys_apart}
use Rattle.trading.proofs.Balances.{both_paid, lines_are}
use Rattle.trading.proofs.Tested.{Known, exchange_is}

third : (x y : Bool) (m n : ℕ) → (x && (y && leb m n)) ≡ true → m ≤ n
third x y m n h = leb-true m n (and_parts y (leb m n) (and_parts x (y && leb m n) h).1).1

same_accounts : (a c e g : ℕ) (v w x y : Account) (cs : Rows Account) → a ≡ c → v ≡ w → e ≡ g → x ≡ y → put e x (put a v cs) ≡ put g y (put c w cs)
same_accounts a c e g v w x y cs i j k l = cc

same_lines : (a c e g : ℕ) (v w x y : Position) (ps : Rows Position) → a ≡ c → v ≡ w → e ≡ g → x ≡ y → placed e x (placed a v ps) ≡ placed g y (placed c w ps)
same_lines a c e g v w x y ps i j k l =
    ap₂ (λ (n : ℕ) (z : Position). placed n z (placed a v ps)) k l ∙ ap₂ (λ (n : ℕ) (z : Position). placed g y (placed n z ps)) i j

module _ (b : Book) (t : Trade) (p : Pricing) (o : Outcome) (lb : t.buyer < 65536) (ls : t.seller < 65536) (κ : Known b t) (rises : Rising 0 b.positions) (h : OutcomeOf b t p o) where
  pub posted_is : posted b o ≡ post b (trade t) p
  unfolding post
  posted_is =
      let x : ℤ = cash_in b t -ℤ fee_on b t p t.buyer in
      let y : ℤ = neg_ℤ (cash_in b t) -ℤ fee_on b t p t.seller in
      let accounts : (posted b o).accounts ≡ pay t.seller y (pay t.buyer x b.accounts) =
      same_accounts _ _ _ _ _ _ _ _ b.accounts (ap (λ (s : Side). s.account) h.buyer.side) h.buyer.account (ap (λ (s : Side). s.account) h.seller.side) h.seller.account
      ∙ sym (both_paid t.buyer t.seller x y b.accounts (λ e. κ.apart (sym e))) in
      let positions : (posted b o).positions ≡ (post b (trade t) p).positions =
      same_lines _ _ _ _ _ _ _ _ b.positions h.buyer.key h.buyer.position h.seller.key h.seller.position
      ∙ sym (lines_are b t p lb ls κ.apart rises) in
      let exchange : o.exchange ≡ (post b (trade t) p).exchange = h.exchange ∙ sym (exchange_is b t p) in
      λ i. record {
        family = b.family;
        spaces = b.spaces;
        accounts = accounts i;
        series = b.series;
        positions = positions i;
        exchange = exchange i;
      }

  pub posted_fits : allowed b t (post b (trade t) p) ≡ Ok tt → length (posted b o).positions ≤ b.spaces.positions
  unfolding allowed
  posted_fits e =
      let h1 = need_so _ _ _ e in
      let h2 = need_so _ _ _ h1.1 in
      let h3 = need_so _ _ _ h2.1 in
      let room = subst (λ (c : Book). fits c ≡ true) (sym posted_is) h3.0 in
      let q = posted b o in
      third (leb (length q.accounts) q.spaces.accounts) (leb (length q.series) q.spaces.series) (length q.positions) q.spaces.positions room

  pub outcome_apart : o.seller.key ≡ o.buyer.key → ⊥
  outcome_apart e = keys_apart (key_of t.series) t.seller t.buyer (λ i. κ.apart (sym i)) (sym h.seller.key ∙ e ∙ h.buyer.key)

  pub buyer_there : present b.accounts o.buyer.side.account ≡ true
  buyer_there = ap (λ (s : Side). present b.accounts s.account) h.buyer.side ∙ κ.buyer

  pub seller_there : present b.accounts o.seller.side.account ≡ true
  seller_there = ap (λ (s : Side). present b.accounts s.account) h.seller.side ∙ κ.seller

-- ---- the tariff's standing
pub stays : {T : Type 0} (next : T → Side → T) (s : T) (b : Book) (e : Event) (r : Refusal) → judge b e ≡ Err r → s ≡ standing_after next s b e
stays {T} next s b e r h = sym (ap (λ (v : Verdict). cond (accepted v) (fold next s (charged b e.call)) s) h)

pub moves_on : {T : Type 0} (next : T → Side → T) (s : T) (b : Book) (e : Event) → judge b e ≡ Ok tt → fold next s (charged b e.call) ≡ standing_after next s b e
moves_on {T} next s b e h = sym (ap (λ (v : Verdict). cond (accepted v) (fold next s (charged b e.call)) s) h)
