-- Deltas: the book's is the ledger's, and a quiet call keeps an account's within the limit or where it was.
use Rattle.std.proofs.Common.{◌≡◌, ℕ, ◌<◌, Bool, true, false, cond, ◌&&◌, eqb, ℤ, pos, sym, refl, ap, ◌∙◌, arith}
use Rattle.std.proofs.lemmas.Grind.{common_steps}
use Rattle.std.proofs.lemmas.Bool.{eqb-true}
use Rattle.positions.specs.declared.position.Position.{Position}
use Rattle.positions.specs.Positions.{flat, units}
use Rattle.positions.specs.Keys.{line_key, series_of_key, account_of_key}
use Rattle.ledger.specs.Calls.{Trade, Call, Pricing, trade}
use Rattle.ledger.specs.Numbers.{all_series}
use Rattle.ledger.specs.Book.{Book, delta_at, weight, delta_of}
use Rattle.ledger.specs.Post.{post}
use Rattle.ledger.specs.Ledger.{Journal, position_in, delta_in, exposure}
use Rattle.ledger.specs.Laws.{Quiet, Limited}
use Rattle.ledger.proofs.Ring.{zero_weight}
use Rattle.ledger.proofs.RowLaws.{each_more, total_kept, total_same, under, under_at, below_same, total-below}
use Rattle.ledger.proofs.PositionLaws.{closed_units, key_is}
use Rattle.ledger.proofs.KeyLaws.{future_is}
use Rattle.ledger.proofs.Worth.{eqb_sym}
use Rattle.ledger.proofs.Kept.{Good, Kept, on}
use Rattle.ledger.proofs.Accepted.{TradePassed, Passed}
use Rattle.ledger.proofs.Steps.{by_call}

-- what a row adds to the delta of the account a
abbrev weighs_on : Book → ℕ → ℕ → Position → ℤ
weighs_on b a k y = cond (eqb a (account_of_key k)) (weight (units y) (delta_at b (series_of_key k))) (pos 0)

pub delta_is : (b : Book) (j : Journal) (a : ℕ) → a < 65536 → Kept b j → delta_of b a ≡ exposure j a
unfolding delta_of exposure
delta_is b j a l κ =
    total_kept (λ k y. weight (units y) (delta_at b (series_of_key k))) (λ k. eqb a (account_of_key k)) b.positions
    ∙ total-below all_series series_of_key (weighs_on b a) b.positions (each_more Good (λ k y. series_of_key k < all_series) b.positions (λ k y g. g.inside) κ.rows)
    ∙ below_same all_series _ _ (λ s h.
    total_same (λ k y. cond (eqb s (series_of_key k)) (weighs_on b a k y) (pos 0)) (under (own s) (line_key s a)) b.positions (λ k y. one s k y)
    ∙ under_at (own s) flat (line_key s a) 0 b.positions (zero_weight (delta_at b s)) κ.position_order
    ∙ rw (κ.counts a s l, κ.values s))
  where
    own : ℕ → Position → ℤ
    own s y = weight (units y) (delta_at b s)

    ways : (c e : Bool) (v w : ℤ) → (c ≡ true → v ≡ w) → cond c (cond e v (pos 0)) (pos 0) ≡ cond (c && e) w (pos 0)
    ways true true v w g = g refl
    ways true false v w g = refl
    ways false e v w g = refl

    one : (s k : ℕ) (y : Position) → cond (eqb s (series_of_key k)) (weighs_on b a k y) (pos 0) ≡ under (own s) (line_key s a) k y
    one s k y =
        rw (eqb_sym s (series_of_key k))
        (ways (eqb (series_of_key k) s) (eqb a (account_of_key k)) (weight (units y) (delta_at b (series_of_key k))) (own s y) (λ e. ap (λ (i : ℕ). weight (units y) (delta_at b i)) (eqb-true (series_of_key k) s e))
        ∙ ap (λ (c : Bool). cond c (own s y) (pos 0)) (sym (key_is k s a l)))

-- what leaves each term leaves the sum
same_sum : (i j : Journal) (a : ℕ) → ((s : ℕ) → weight (units (position_in a s i)) (delta_in i s) ≡ weight (units (position_in a s j)) (delta_in j s)) → exposure i a ≡ exposure j a
unfolding exposure
same_sum i j a h = below_same all_series _ _ (λ s _. h s)

stays : (f a : ℕ) (i j : Journal) → exposure j a ≡ exposure i a → Limited f a i j
stays f a i j e = rw e (omega arith)

trade_within : (b : Book) (j : Journal) (t : Trade) (p : Pricing) (a : ℕ) → a < 65536 → TradePassed b t (post b (trade t) p) → Kept b j → Limited b.family a j (on (trade t) p j)
trade_within b j t p a l π κ = grind (arith, common_steps, by_call, delta_is, same_sum)

pub quiet_within : (b : Book) (j : Journal) (c : Call) (p : Pricing) (a : ℕ) → a < 65536 → Quiet c → Passed b c (post b c p) → Kept b j → Limited b.family a j (on c p j)
quiet_within b j c p a l q π κ = grind (arith, closed_units, eqb-true, future_is, on, same_sum, stays, trade_within, zero_weight)
