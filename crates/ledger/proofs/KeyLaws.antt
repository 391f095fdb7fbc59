-- The numbers of series, and their keys.
use Rattle.std.proofs.Common.{◌≡◌, ℕ, ◌<◌, ◌≤◌, true, false, eqb, ltb, sym, ap, ◌∙◌, arith}
use Rattle.std.proofs.lemmas.Bool.{eqb-true, eq-eqb, ne_eqb, and_parts, true≢false}
use Rattle.terms.specs.declared.family.Family.{Family}
use Rattle.terms.specs.declared.kinds.SeriesKind.{SeriesKind}
use Rattle.terms.specs.declared.kinds.Size.{Size}
use Rattle.terms.specs.declared.kinds.Size.TheVariants.{Full}
use Rattle.series.specs.Listing.{size_in}
use Rattle.positions.specs.Keys.{future_key, is_future_key}
use Rattle.ledger.specs.Calls.{Series}
use Rattle.ledger.specs.Numbers.{kind_of, size_of, series_kind, is_future, on_future, series_in, size_offered, key_of, kind_of_key, future_of_key, all_series}

pub record InRange (x : Series) : Type 0 where
  pub kind : x.kind < 5
  pub month : (24000 ≤ x.month) × (x.month ≤ 25199)
  pub strike : x.strike < 131072
  pub bare : is_future (series_kind x) ≡ true → x.strike ≡ 0

pub in_range_lem : (f : Family) (x : Series) → series_in f x ≡ true → InRange x
in_range_lem f x e = grind arith

-- ---- kinds
future_number : (n : ℕ) → is_future (kind_of n) ≡ eqb n 0
future_number n = grind arith

pub not_both : (k : SeriesKind) → on_future k ≡ true → is_future k ≡ false
not_both k e = grind arith

-- options on the future have no minis
full_only : (f : Family) (k : SeriesKind) (z : Size) → size_in f k z ≡ true → on_future k ≡ true → z ≡ Full
full_only f k z e h = grind arith

pub size_full : (f : Family) (x : Series) (z : ℕ) → size_offered f x z ≡ true → on_future (series_kind x) ≡ true → size_of z ≡ Full
size_full f x z e h = full_only f (series_kind x) (size_of z) (and_parts (ltb z 2) (size_in f (series_kind x) (size_of z)) e).1 h

-- ---- keys
pub key_future : (x : Series) → InRange x → is_future (series_kind x) ≡ true → key_of x ≡ future_key x.month
key_future x r e = omega (arith, r.bare e, eqb-true x.kind 0 (sym (future_number x.kind) ∙ e))

pub key_is_future : (x : Series) → InRange x → is_future_key (key_of x) ≡ is_future (series_kind x)
key_is_future x r = grind arith

pub future_is : (m : ℕ) → is_future_key (future_key m) ≡ true
future_is m = eq-eqb _ _ (omega arith)

pub future_kind : (m : ℕ) → kind_of_key (future_key m) ≡ 0
future_kind m = omega arith

pub key_kind : (x : Series) → InRange x → kind_of_key (key_of x) ≡ x.kind
key_kind x r = omega (arith, r.kind, r.strike)

pub key_month : (x : Series) → InRange x → future_of_key (key_of x) ≡ future_key x.month
key_month x r = omega (arith, r.kind, r.strike)

pub key_inside : (x : Series) → InRange x → key_of x < all_series
key_inside x r = omega (arith, r.kind, r.strike, r.month.0, r.month.1)

pub future_inside : (m : ℕ) → m ≤ 25199 → future_key m < all_series
future_inside m h = omega arith

-- a future's key is not an option's
pub apart : (s n : ℕ) → is_future_key s ≡ false → is_future_key n ≡ true → eqb s n ≡ false
apart s n e f = ne_eqb s n (λ q. true≢false (sym f ∙ ap is_future_key (sym q) ∙ e))
