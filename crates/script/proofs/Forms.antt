-- A text with a point in it: where its first point stands tells its form.
use Rattle.std.proofs.Common.{◌≡◌, ℕ, suc, ◌+◌, ◌*◌, ◌<◌, ◌≤◌, List, ◌∷◌, ◌++◌, length, get_or, take, drop, Ok, Err, Result, refl, inl, inr, arith}
use Rattle.std.proofs.lemmas.List.{take-append-drop, drop_more, get_or_at, get_or_append_left, take_all}
use Rattle.std.proofs.lemmas.Grind.{common_steps}
use Rattle.script.specs.declared.numbers.Misread.{Misread}
use Rattle.script.specs.declared.numbers.Misread.TheVariants.{NotANumber, TooFine, TooLarge}
use Rattle.script.specs.Digits.{Numeral, value}
use Rattle.script.specs.Numbers.{Fitting, Decimal, after_point, FirstPoint, Formless, Hundredths}

-- a point cuts the text in two
pub cut : (w : List ℕ) (d : ℕ) → d < length w → get_or w d 0 ≡ 46 → w ≡ take d w ++ 46 ∷ drop (d + 1) w
cut w d h e = grind (arith, take-append-drop, drop_more)

-- a text has one first point
one_point : (w : List ℕ) (i j : ℕ) → FirstPoint w i → FirstPoint w j → i ≡ j
one_point w i j a b = grind arith

-- a numeral has no point
pub no_point : (w : List ℕ) (d : ℕ) → FirstPoint w d → Numeral w → d ≡ length w
no_point w d at n = grind arith

-- the lengths of a text with decimals
pub sizes : (w whole part : List ℕ) → Decimal w whole part → length w ≡ length whole + suc (length part)
sizes w whole part d = grind (arith, common_steps)

-- the point stands behind the whole points
pub point_byte : (w whole part : List ℕ) → Decimal w whole part → get_or w (length whole) 0 ≡ 46
point_byte w whole part d = grind (arith, common_steps, get_or_at)

-- what stands before it are the whole points' digits
pub front_byte : (w whole part : List ℕ) → Decimal w whole part → (k : ℕ) → k < length whole → get_or w k 0 ≡ get_or whole k 0
front_byte w whole part d k h = grind (arith, get_or_append_left)

-- so it is the first one
pub first_of : (w whole part : List ℕ) → Decimal w whole part → FirstPoint w (length whole)
first_of w whole part d = record {
  within = omega (arith, sizes w whole part d);
  before = λ k h e. omega (arith, front_byte w whole part d k h, d.front.digits k h);
  found = λ h. point_byte w whole part d;
}

-- the whole points end where the first point stands
pub point_place : (w whole part : List ℕ) (i : ℕ) → FirstPoint w i → Decimal w whole part → length whole ≡ i
point_place w whole part i at d = one_point w (length whole) i (first_of w whole part d) at

-- the two parts are what lies before and behind it
pub whole_is : (w whole part : List ℕ) (i : ℕ) → FirstPoint w i → Decimal w whole part → whole ≡ take i w
whole_is w whole part i at d =
    let len = point_place w whole part i at d in grind (arith, common_steps)

pub part_is : (w whole part : List ℕ) (i : ℕ) → FirstPoint w i → Decimal w whole part → part ≡ drop (i + 1) w
part_is w whole part i at d =
    let len = point_place w whole part i at d in grind (arith, common_steps, sizes)

-- a text with a point, and a numeral on either side of it
pub decimal_at : (w whole part : List ℕ) (i : ℕ) → FirstPoint w i → i < length w → whole ≡ take i w → part ≡ drop (i + 1) w → Numeral whole → Numeral part → Decimal w whole part
decimal_at w whole part i at lt e f m n = record { joined = grind (arith, cut); front = m; back = n }

-- no numeral before the first point
pub formless_front : (w whole : List ℕ) (i : ℕ) → FirstPoint w i → whole ≡ take i w → (Numeral whole → ⊥) → Formless w
formless_front w whole i at e none = record {
  plain = grind (arith, no_point, take_all);
  decimal = grind (arith, whole_is);
}

-- no numeral behind it
pub formless_back : (w part : List ℕ) (i : ℕ) → FirstPoint w i → i < length w → part ≡ drop (i + 1) w → (Numeral part → ⊥) → Formless w
formless_back w part i at lt e none = record {
  plain = grind (arith, no_point);
  decimal = grind (arith, part_is);
}

-- the answer for whole points
pub whole_points : (w : List ℕ) (r : Result ℕ Misread) → Numeral w → Fitting (100 * value w + 0) r → Hundredths w r
whole_points w (Ok n) m f = (inl (record { whole = m; counts = omega arith }), omega arith)
whole_points w (Err NotANumber) m f = absurd f
whole_points w (Err TooFine) m f = absurd f
whole_points w (Err TooLarge) m f = (100 * value w, inl (record { whole = m; counts = refl }), omega arith)

-- the answer for points with one or two decimals
pub fine_points : (w whole part : List ℕ) (r : Result ℕ Misread) → Decimal w whole part → length part ≤ 2 → Fitting (100 * value whole + after_point part) r → Hundredths w r
fine_points w whole part (Ok n) d s f = (inr (record { whole = whole; part = part; form = d; short = s; counts = f.0 }), omega arith)
fine_points w whole part (Err NotANumber) d s f = absurd f
fine_points w whole part (Err TooFine) d s f = absurd f
fine_points w whole part (Err TooLarge) d s f =
    (100 * value whole + after_point part, inr (record { whole = whole; part = part; form = d; short = s; counts = refl }), f)
