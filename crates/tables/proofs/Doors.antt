-- Numbers that have become values: what the rules say of them.
use Rattle.std.proofs.Common.{◌≡◌, ℕ, zero, suc, ◌<◌, Bool, true, false, ◌&&◌, ltb, leb, refl, ap, arith}
use Rattle.std.proofs.lemmas.Bool.{and_parts, leb-true, ltb-true}
use Rattle.terms.specs.declared.family.Family.{Family}
use Rattle.terms.specs.declared.kinds.AccountKind.{AccountKind}
use Rattle.terms.specs.declared.kinds.AccountKind.TheVariants.{House, Maker, Client}
use Rattle.terms.specs.declared.kinds.SeriesKind.{SeriesKind}
use Rattle.terms.specs.declared.kinds.SeriesKind.TheVariants.{Future, Call, Put, CallOnFuture, PutOnFuture}
use Rattle.terms.specs.Kinds.{kind_number, account_kind_number}
use Rattle.series.specs.Listing.{offers, takes_strike, SeriesRange}
use Rattle.ledger.specs.Numbers.{kind_of, account_kind_of, month_in, series_in}
use Rattle.tables.specs.Model.{numbers}

pub account_kind : (k : AccountKind) (n : ℕ) → account_kind_number k ≡ n → k ≡ account_kind_of n
account_kind House n e = ap account_kind_of e
account_kind Maker n e = ap account_kind_of e
account_kind Client n e = ap account_kind_of e

-- ---- kinds of series
pub kind_of_lem : (k : SeriesKind) → kind_of (kind_number k) ≡ k
kind_of_lem Future = refl
kind_of_lem Call = refl
kind_of_lem Put = refl
kind_of_lem CallOnFuture = refl
kind_of_lem PutOnFuture = refl

number_of : (n : ℕ) → n < 5 → kind_number (kind_of n) ≡ n
number_of zero h = refl
number_of (suc zero) h = refl
number_of (suc (suc zero)) h = refl
number_of (suc (suc (suc zero))) h = refl
number_of (suc (suc (suc (suc n)))) h = omega arith

-- ---- series
pub numbered_out : (f : Family) (kind month strike : ℕ) → ((k : SeriesKind) → kind_number k ≡ kind → SeriesRange f k month strike → ⊥) → series_in f (numbers kind month strike) ≡ false
numbered_out f kind month strike h = ways (series_in f (numbers kind month strike)) refl
  where
    ways : (c : Bool) → series_in f (numbers kind month strike) ≡ c → c ≡ false
    ways true e =
        let p = and_parts (ltb kind 5) (offers f (kind_of kind) && (month_in month && takes_strike (kind_of kind) strike)) e in
        let q = and_parts (offers f (kind_of kind)) (month_in month && takes_strike (kind_of kind) strike) p.1 in
        let r = and_parts (month_in month) (takes_strike (kind_of kind) strike) q.1 in
        let m = and_parts (leb 24000 month) (leb month 25199) r.0 in
        absurd (h (kind_of kind) (number_of kind (ltb-true kind 5 p.0)) (record {
          offered = q.0;
          in_months = record { least = leb-true 24000 month m.0; most = leb-true month 25199 m.1 };
          in_strikes = r.1;
        }))
    ways false e = refl
