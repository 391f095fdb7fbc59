-- A text gives one answer only.
use Rattle.std.proofs.Common.{◌≡◌, ℕ, ◌+◌, ◌*◌, List, length, Ok, Err, Result, sym, refl, ap, ◌∙◌, inl, inr, arith}
use Rattle.script.specs.declared.numbers.Misread.{Misread}
use Rattle.script.specs.declared.numbers.Misread.TheVariants.{NotANumber, TooFine, TooLarge}
use Rattle.script.specs.Digits.{Numeral, value}
use Rattle.script.specs.Numbers.{Number, Decimal, after_point, Writes, Formless, OverFine, Hundredths}
use Rattle.script.specs.Only.{Only}
use Rattle.script.proofs.Forms.{first_of, no_point, whole_is, part_is, sizes}

-- one plain number
pub one_number : (w : List ℕ) (r s : Result ℕ Misread) → Number w r → Number w s → r ≡ s
one_number w r s h k = grind arith

-- a numeral has no decimals
apart : (w whole part : List ℕ) → Numeral w → Decimal w whole part → ⊥
apart w whole part n d = omega (arith, no_point w (length whole) (first_of w whole part d) n, sizes w whole part d)

-- a text has one whole and one part
same_whole : (w a b x y : List ℕ) → Decimal w a b → Decimal w x y → a ≡ x
same_whole w a b x y d e =
    whole_is w a b (length a) (first_of w a b d) d ∙ sym (whole_is w x y (length a) (first_of w a b d) e)

same_part : (w a b x y : List ℕ) → Decimal w a b → Decimal w x y → b ≡ y
same_part w a b x y d e =
    part_is w a b (length a) (first_of w a b d) d ∙ sym (part_is w x y (length a) (first_of w a b d) e)

-- a text writes one number at most
pub writes_one : (w : List ℕ) (m n : ℕ) → Writes w m → Writes w n → m ≡ n
writes_one w m n (inl a) (inl b) = a.counts ∙ sym b.counts
writes_one w m n (inl a) (inr b) = absurd (apart w b.whole b.part a.whole b.form)
writes_one w m n (inr a) (inl b) = absurd (apart w a.whole a.part b.whole a.form)
writes_one w m n (inr a) (inr b) =
    let wholes = same_whole w a.whole a.part b.whole b.part a.form b.form in
    let parts = same_part w a.whole a.part b.whole b.part a.form b.form in
    a.counts ∙ ap (λ t. 100 * value t + after_point a.part) wholes ∙ ap (λ t. 100 * value b.whole + after_point t) parts ∙ sym b.counts

-- a text that writes a number has a form, and is not over fine
formed : (w : List ℕ) (n : ℕ) → Writes w n → Formless w → ⊥
formed w n h f = grind arith

not_over : (w : List ℕ) (n : ℕ) → Writes w n → OverFine w → ⊥
not_over w n (inl a) o = apart w o.whole o.part a.whole o.form
not_over w n (inr a) o =
    omega (arith, ap length (same_part w a.whole a.part o.whole o.part a.form o.form))

over_formed : (w : List ℕ) → OverFine w → Formless w → ⊥
over_formed w o f = grind arith

-- a text that gives a number is not refused
not_both : (w : List ℕ) (n : ℕ) (e : Misread) → Hundredths w (Ok n) → Hundredths w (Err e) → ⊥
not_both w n NotANumber h k = formed w n h.0 k
not_both w n TooFine h k = not_over w n h.0 k
not_both w n TooLarge h k = omega (arith, writes_one w k.0 n k.1 h.0, h.1, k.2)

pub one_reading : (w : List ℕ) (r s : Result ℕ Misread) → Hundredths w r → Hundredths w s → r ≡ s
one_reading w (Ok m) (Ok n) h k = ap Ok (writes_one w m n h.0 k.0)
one_reading w (Ok m) (Err e) h k = absurd (not_both w m e h k)
one_reading w (Err e) (Ok n) h k = absurd (not_both w n e k h)
one_reading w (Err NotANumber) (Err e) h k = grind (arith, formed, over_formed)
one_reading w (Err TooFine) (Err NotANumber) h k = absurd (over_formed w h k)
one_reading w (Err TooFine) (Err TooFine) h k = refl
one_reading w (Err TooFine) (Err TooLarge) h k = absurd (not_over w k.0 k.1 h)
one_reading w (Err TooLarge) (Err NotANumber) h k = absurd (formed w h.0 h.1 k)
one_reading w (Err TooLarge) (Err TooFine) h k = absurd (not_over w h.0 h.1 k)
one_reading w (Err TooLarge) (Err TooLarge) h k = refl

pub only_reading : (w : List ℕ) (r : Result ℕ Misread) → Hundredths w r → Only (Hundredths w) r
only_reading w r h = record { holds = h; alone = λ s k. one_reading w s r k h }
