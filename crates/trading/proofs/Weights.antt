-- An account's delta as a sum over all positions, and how it is added up.
use Rattle.std.proofs.Common.{◌≡◌, ℕ, ◌+◌, ◌<◌, ◌≤◌, Bool, true, false, cond, eqb, length, get_or, drop, ℤ, pos, ◌+ℤ◌, ◌-ℤ◌, neg_ℤ, sym, refl, ap, ◌∙◌, ap₂, arith}
use Rattle.std.proofs.lemmas.Int.{ints}
use Rattle.std.proofs.lemmas.Bool.{eq-eqb, ne_eqb}
use Rattle.std.proofs.lemmas.List.{at_drop_more, at_drop_all, get_or-map}
use Rattle.registers.specs.Rows.{Rows, keys_in, contents_in}
use Rattle.registers.specs.Sums.{total_ℤ}
use Rattle.positions.specs.declared.position.Position.{Position}
use Rattle.positions.specs.Positions.{flat, units, dealt}
use Rattle.positions.specs.Keys.{line_key, series_of_key, account_of_key}
use Rattle.terms.specs.declared.kinds.Size.{Size}
use Rattle.ledger.specs.Calls.{Trade, Pricing, trade}
use Rattle.ledger.specs.Numbers.{key_of, size_of}
use Rattle.ledger.specs.Rows.{at, revise}
use Rattle.ledger.specs.Book.{Book, kind_at, delta_at, weight, delta_of}
use Rattle.ledger.specs.Post.{post, traded}
use Rattle.ledger.proofs.Ring.{zero_weight, +-weight}
use Rattle.ledger.proofs.RowLaws.{total_kept, total-revise}
use Rattle.ledger.proofs.PositionLaws.{account_of_key_lem, series_of_key_lem, dealt_units, if_units, lots_neg}
use Rattle.trading.specs.Found.{weighs_on}

pub delta_is : (b : Book) (a : ℕ) → delta_of b a ≡ total_ℤ (weighs_on b a) b.positions
unfolding delta_of
delta_is b a = total_kept (λ k y. weight (units y) (delta_at b (series_of_key k))) (λ k. eqb a (account_of_key k)) b.positions

-- ---- row by row
pub one_more : {V : Type 0} (f : ℕ → V → ℤ) (rs : Rows V) (i : ℕ) (d : V) → i < length rs → total_ℤ f (drop i rs) ≡ f (get_or (keys_in rs) i 0) (get_or (contents_in rs) i d) +ℤ total_ℤ f (drop (i + 1) rs)
unfolding total_ℤ
one_more {V} f rs i d l =
    at_drop_more (total_ℤ f) rs i (0, d) l
    ∙ ap₂ (λ (k : ℕ) (v : V). f k v +ℤ total_ℤ f (drop (i + 1) rs)) (sym (get_or-map (λ (r : ℕ × V). r.0) rs i (0, d) 0 l)) (sym (get_or-map (λ (r : ℕ × V). r.1) rs i (0, d) d l))

pub none_left : {V : Type 0} (f : ℕ → V → ℤ) (rs : Rows V) (i : ℕ) → length rs ≤ i → total_ℤ f (drop i rs) ≡ pos 0
unfolding total_ℤ
none_left f rs i l = at_drop_all (total_ℤ f) rs i l

-- ---- a position changed by so many units
own_weight : (b : Book) (x s a : ℕ) (p : Position) → a < 65536 → weighs_on b x (line_key s a) p ≡ cond (eqb x a) (weight (units p) (delta_at b s)) (pos 0)
own_weight b x s a p l =
    ap₂ (λ (i j : ℕ). cond (eqb x i) (weight (units p) (delta_at b j)) (pos 0)) (account_of_key_lem s a l) (series_of_key_lem s a l)

if_zero : (c : Bool) (x : ℤ) → x ≡ pos 0 → cond c x (pos 0) ≡ pos 0
if_zero true x e = e
if_zero false x e = refl

pub line_weight : (b : Book) (x s a : ℕ) (f : Position → Position) (d : ℤ) (ps : Rows Position) → a < 65536 → ((p : Position) → units (f p) ≡ units p +ℤ d)
    → total_ℤ (weighs_on b x) (revise f (line_key s a) ps) ≡ total_ℤ (weighs_on b x) ps +ℤ cond (eqb x a) (weight d (delta_at b s)) (pos 0)
line_weight b x s a f d ps l e =
    let k : ℕ = line_key s a in
    let p : Position = at flat ps k in
    let δ : ℤ = delta_at b s in
    total-revise f k ps (weighs_on b x) (own_weight b x s a flat l ∙ if_zero (eqb x a) (weight (units flat) δ) (zero_weight δ))
    ∙ ap (λ (y : ℤ). total_ℤ (weighs_on b x) ps +ℤ y)
    (ap₂ (λ (y z : ℤ). y -ℤ z) (own_weight b x s a (f p) l) (own_weight b x s a p l)
    ∙ if_units (eqb x a) (weight (units (f p)) δ) (weight (units p) δ) (weight d δ) (ap (λ (n : ℤ). weight n δ) (e p) ∙ +-weight (units p) d δ))

-- ---- an account's delta after a trade
module _ (b : Book) (t : Trade) (p : Pricing) (lb : t.buyer < 65536) (ls : t.seller < 65536) (apart : t.buyer ≡ t.seller → ⊥) where
  abbrev δ : ℤ
  δ = delta_at b (key_of t.series)

  moved : (x : ℕ) → delta_of (post b (trade t) p) x ≡ (delta_of b x +ℤ cond (eqb x t.buyer) (weight (traded t) δ) (pos 0)) +ℤ cond (eqb x t.seller) (weight (neg_ℤ (traded t)) δ) (pos 0)
  unfolding post
  moved x =
      let s : ℕ = key_of t.series in
      let z : Size = size_of t.size in
      let n : ℤ = pos t.count in
      let f : Position → Position = dealt (kind_at b t.buyer) z n in
      let g : Position → Position = dealt (kind_at b t.seller) z (neg_ℤ n) in
      delta_is (post b (trade t) p) x
      ∙ line_weight b x s t.seller g (neg_ℤ (traded t)) (revise f (line_key s t.buyer) b.positions) ls (λ q. dealt_units (kind_at b t.seller) z (neg_ℤ n) q ∙ ap (λ (y : ℤ). units q +ℤ y) (lots_neg z n))
      ∙ ap (λ (y : ℤ). y +ℤ cond (eqb x t.seller) (weight (neg_ℤ (traded t)) (delta_at b s)) (pos 0))
      (line_weight b x s t.buyer f (traded t) b.positions lb (λ q. dealt_units (kind_at b t.buyer) z n q)
      ∙ ap (λ (y : ℤ). y +ℤ cond (eqb x t.buyer) (weight (traded t) (delta_at b s)) (pos 0)) (sym (delta_is b x)))

  pub buyer_delta : delta_of (post b (trade t) p) t.buyer ≡ delta_of b t.buyer +ℤ weight (traded t) δ
  buyer_delta =
      moved t.buyer
      ∙ rw (eq-eqb t.buyer t.buyer refl, ne_eqb t.buyer t.seller apart) (omega (arith, ints))

  pub seller_delta : delta_of (post b (trade t) p) t.seller ≡ delta_of b t.seller +ℤ weight (neg_ℤ (traded t)) δ
  seller_delta =
      moved t.seller
      ∙ rw (eq-eqb t.seller t.seller refl, ne_eqb t.seller t.buyer (λ e. apart (sym e))) (omega (arith, ints))

pub neg_weight : (n d : ℤ) → weight (neg_ℤ n) d ≡ neg_ℤ (weight n d)
neg_weight n d =
    let none : neg_ℤ n +ℤ n ≡ pos 0 = omega (arith, ints) in
    let sum = +-weight (neg_ℤ n) n d in
    let zero = ap (λ (x : ℤ). weight x d) none ∙ zero_weight d in
    omega (arith, ints)
