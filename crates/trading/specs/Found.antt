-- What the tests of a trade find in the book before it.
use Rattle.std.specs.Prelude.{◌≡◌, ℕ, cond, ℤ, pos, ◌+ℤ◌, ◌-ℤ◌, neg_ℤ, Some, None, Option, ◌==◌}
use Rattle.positions.specs.declared.position.Position.{Position}
use Rattle.positions.specs.Positions.{units, is_flat, dealt, counted}
use Rattle.positions.specs.Keys.{line_key, series_of_key, account_of_key}
use Rattle.registers.specs.Rows.{lookup, put}
use Rattle.ledger.specs.Calls.{Trade, Pricing}
use Rattle.ledger.specs.Numbers.{key_of, size_of}
use Rattle.ledger.specs.Rows.{at, placed}
use Rattle.ledger.specs.Book.{Book, book, nobody, family_in, kind_at, terms_at, value_at, position_at, delta_at, weight}
use Rattle.ledger.specs.Charges.{trade_side, fee_of}
use Rattle.ledger.specs.Post.{cash_of, paid}
use Rattle.ledger.specs.declared.rows.Account.{Account}
use Rattle.tariffs.specs.declared.side.Side.{Side}
use Rattle.trading.specs.declared.found.Parties.{Parties}
use Rattle.trading.specs.declared.found.Move.{Move}
use Rattle.trading.specs.declared.found.Moves.{Moves}
use Rattle.trading.specs.declared.found.Leg.{Leg}
use Rattle.trading.specs.declared.found.Outcome.{Outcome}

abbrev pub parties_at : Book → Trade → Parties
parties_at b t = record {
  buyer = at nobody b.accounts t.buyer;
  seller = at nobody b.accounts t.seller;
  terms = terms_at b (key_of t.series);
}

-- what a position adds to the delta of the account a
abbrev pub weighs_on : Book → ℕ → ℕ → Position → ℤ
weighs_on b a k y = cond (a == account_of_key k) (weight (units y) (delta_at b (series_of_key k))) (pos 0)

-- how many rows a position takes
abbrev pub standing : Position → ℕ
standing p = cond (is_flat p) 0 1

-- the same of a position that may be out of range, which is not flat
abbrev pub stands_after : Option Position → ℕ
stands_after None = 1
stands_after (Some p) = standing p

abbrev pub stands_before : Option Position → ℕ
stands_before None = 0
stands_before (Some p) = 1

-- the buyer's and the seller's position after a trade
abbrev pub bought : Book → Trade → Position
bought b t = dealt (kind_at b t.buyer) (size_of t.size) (pos t.count) (position_at b (key_of t.series) t.buyer)

abbrev pub sold : Book → Trade → Position
sold b t = dealt (kind_at b t.seller) (size_of t.size) (neg_ℤ (pos t.count)) (position_at b (key_of t.series) t.seller)

-- what the buyer gets from the seller, before fees
abbrev pub cash_in : Book → Trade → ℤ
cash_in b t = cash_of (family_in b) (value_at b (key_of t.series)) t

-- what the account a pays
abbrev pub fee_on : Book → Trade → Pricing → ℕ → ℤ
fee_on b t p a = fee_of (p (trade_side t a (kind_at b a)))

-- The position of the account a in the series of a trade becomes q.
pub record MoveOf (b : Book) (t : Trade) (a : ℕ) (q : Position) (m : Move) : Type 0 where
  pub key : m.key ≡ line_key (key_of t.series) a
  pub before : m.before ≡ lookup b.positions (line_key (key_of t.series) a)
  pub after : m.after ≡ counted q

pub record MovesOf (b : Book) (t : Trade) (m : Moves) : Type 0 where
  pub buyer : MoveOf b t t.buyer (bought b t) m.buyer
  pub seller : MoveOf b t t.seller (sold b t) m.seller

-- A leg made of a side, an account that gets an amount, and a move that is in range.
pub record LegBy (side : Side) (before : Account) (m : Move) (x : ℤ) (l : Leg) : Type 0 where
  pub same_side : l.side ≡ side
  pub same_key : l.key ≡ m.key
  pub account : l.account ≡ paid x before
  pub position : m.after ≡ Some l.position

-- The leg of the account a: it gets x, and its position becomes q.
pub record LegOf (b : Book) (t : Trade) (a : ℕ) (x : ℤ) (q : Position) (l : Leg) : Type 0 where
  pub side : l.side ≡ trade_side t a (kind_at b a)
  pub key : l.key ≡ line_key (key_of t.series) a
  pub account : l.account ≡ paid x (at nobody b.accounts a)
  pub position : l.position ≡ q

-- What a trade comes to at these prices.
pub record OutcomeOf (b : Book) (t : Trade) (p : Pricing) (o : Outcome) : Type 0 where
  pub buyer : LegOf b t t.buyer (cash_in b t -ℤ fee_on b t p t.buyer) (bought b t) o.buyer
  pub seller : LegOf b t t.seller (neg_ℤ (cash_in b t) -ℤ fee_on b t p t.seller) (sold b t) o.seller
  pub exchange : o.exchange ≡ b.exchange +ℤ (fee_on b t p t.buyer +ℤ fee_on b t p t.seller)

-- the book with an outcome written to it
abbrev pub posted : Book → Outcome → Book
posted b o =
    book b
    (put o.seller.side.account o.seller.account (put o.buyer.side.account o.buyer.account b.accounts))
    b.series
    (placed o.seller.key o.seller.position (placed o.buyer.key o.buyer.position b.positions))
    o.exchange
