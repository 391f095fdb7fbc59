-- The worked figure.
use Rattle.std.proofs.Common.{◌≡◌, ℕ, zero, suc, ◌*◌, min, List, [], ◌∷◌, map, get_or, Some, None, Option, sym, refl, ap, ◌∙◌, arith}
use Rattle.tariffs.specs.declared.rate.Rate.{Rate}
use Rattle.tariffs.specs.declared.listing.Listing.{Listing}
use Rattle.tariffs.specs.declared.allowance.Allowance.{Allowance}
use Rattle.tariffs.specs.Rates.{fee_by, cents_of}
use Rattle.tariffs.specs.Listed.{place_of, listed_price}
use Rattle.tariffs.specs.Allowed.{plus, trade_fee, allowed_price}
use Rattle.charges.specs.Figure.{five, Priced}

fee_by_cents : (n cents : ℕ) (o : Option Rate) → cents_of o ≡ Some cents → fee_by n o ≡ Some (n * cents)
fee_by_cents n cents None e = let z : ◌≡◌ {A = ℕ} 0 1 = cc in absurd (omega arith)
fee_by_cents n cents (Some rate) e = let same : rate.cents ≡ cents = cc in ap (λ c. Some (n * c)) same

cents_at : (rates : List (Option Rate)) (i : ℕ) → get_or (map cents_of rates) i None ≡ cents_of (get_or rates i None)
cents_at [] i = refl
cents_at (o ∷ rates) zero = refl
cents_at (o ∷ rates) (suc i) = cents_at rates i

pub worked : (a : Allowance Listing) → Priced a → allowed_price (listed_price a.lower) a five ≡ Some 2600
worked a p =
    let lower = listed_price a.lower in
    let rates = a.lower.rates in
    ap (λ l. trade_fee lower a.reduced.cents (min 5 l) five) p.three
    ∙ ap (λ cents. trade_fee lower cents 3 five) p.reduced
    ∙ ap (plus 600) (fee_by_cents 2 1000 (get_or rates (place_of five) None) (sym (cents_at rates (place_of five)) ∙ p.below))
