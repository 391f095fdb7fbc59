-- Numbers in range by their types are in range by the rules, and no others.
use Rattle.std.proofs.Common.{◌≡◌, ℕ, ◌<◌, Bool, true, false, ◌&&◌, leb, sym, refl, ap, ◌∙◌, arith}
use Rattle.std.proofs.lemmas.Bool.{and_parts, and_from, le-leb, leb-true, lt-ltb}
use denote.Enum.Declared.{tag_of}
use Rattle.terms.specs.contracts.family.Family.{the_type}
use Rattle.terms.specs.declared.family.Family.{Family}
use Rattle.terms.specs.declared.family.Family.TheVariants.{HangSeng, ChinaEnterprises, MsciTaiwan}
use Rattle.terms.specs.declared.kinds.SeriesKind.{SeriesKind}
use Rattle.terms.specs.declared.kinds.SeriesKind.TheVariants.{Future, Call, Put, CallOnFuture, PutOnFuture}
use Rattle.terms.specs.Families.{family_number}
use Rattle.terms.specs.Kinds.{kind_number}
use Rattle.terms.specs.Ranges.{Within, MonthRange, PriceRange}
use Rattle.series.specs.declared.series.Series as series
use Rattle.series.specs.Listing.{offers, takes_strike, HasNumbers}
use Rattle.ledger.specs.Numbers.{family_of, kind_of, month_in, price_in, series_in}
use Rattle.tables.specs.Model.{numbers}
use Rattle.tables.proofs.Doors.{kind_of_lem}

pub range_in : (lo hi n : ℕ) → Within lo hi n → (leb lo n && leb n hi) ≡ true
range_in lo hi n h = and_from _ _ (le-leb lo n h.least) (le-leb n hi h.most)

pub range_out : (lo hi n : ℕ) → (Within lo hi n → ⊥) → (leb lo n && leb n hi) ≡ false
range_out lo hi n h = ways _ refl
  where
    ways : (c : Bool) → (leb lo n && leb n hi) ≡ c → c ≡ false
    ways true e = let p = and_parts (leb lo n) (leb n hi) e in absurd (h record { least = leb-true lo n p.0; most = leb-true n hi p.1 })
    ways false e = refl

pub month_in_lem : (m : ℕ) → MonthRange m → month_in m ≡ true
month_in_lem = range_in 24000 25199

pub month_out : (m : ℕ) → (MonthRange m → ⊥) → month_in m ≡ false
month_out = range_out 24000 25199

pub price_in_lem : (n : ℕ) → PriceRange n → price_in n ≡ true
price_in_lem = range_in 1 10000000

pub price_out : (n : ℕ) → (PriceRange n → ⊥) → price_in n ≡ false
price_out = range_out 1 10000000

-- ---- families
pub family_of_lem : (f : Family) → family_of (family_number f) ≡ f
family_of_lem HangSeng = refl
family_of_lem ChinaEnterprises = refl
family_of_lem MsciTaiwan = refl

pub family_tag : (f : Family) → tag_of the_type f ≡ family_number f
family_tag HangSeng = refl
family_tag ChinaEnterprises = refl
family_tag MsciTaiwan = refl

-- ---- series
kind_below : (k : SeriesKind) → kind_number k < 5
kind_below Future = omega arith
kind_below Call = omega arith
kind_below Put = omega arith
kind_below CallOnFuture = omega arith
kind_below PutOnFuture = omega arith

pub series_in_lem : (f : Family) (kind month strike : ℕ) (s : series.Series) → HasNumbers f kind month strike s → series_in f (numbers kind month strike) ≡ true
series_in_lem f kind month strike s h =
    let k : kind_of kind ≡ s.kind = sym (ap kind_of h.has_kind) ∙ kind_of_lem s.kind in
    let l : kind < 5 = omega (arith, kind_below s.kind, h.has_kind) in
    and_from _ _ (lt-ltb kind 5 l)
    (and_from _ _ (ap (offers f) k ∙ h.range.offered)
    (and_from _ _ (month_in_lem month h.range.in_months) (ap (λ (x : SeriesKind). takes_strike x strike) k ∙ h.range.in_strikes)))

pub range_is : (n : ℕ) (f : Family) → family_of n ≡ f → (kind month strike : ℕ) (s : series.Series) → HasNumbers f kind month strike s → series_in (family_of n) (numbers kind month strike) ≡ true
range_is n f is kind month strike s h = ap (λ (g : Family). series_in g (numbers kind month strike)) is ∙ series_in_lem f kind month strike s h
