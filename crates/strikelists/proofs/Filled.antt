-- A list that is written part by part to the front of a space.
use Rattle.std.proofs.Common.{◌≡◌, ℕ, ◌+◌, ◌≤◌, List, [], ◌∷◌, ◌++◌, length, take, drop, set, refl, sym, ap, ◌∙◌, append_assoc, arith, length-append}
use Rattle.std.proofs.lemmas.Grind.{common_steps}
use borrow.Rule.Slice.PartMut.{put_mid}
use Rattle.std.proofs.lemmas.List.{take-append-drop}
use Rattle.std.proofs.lemmas.Slice.{take-put_mid, drop-put_mid}

-- of the list `all` what is left comes behind the first `count` places, and nothing behind the list has changed
pub record Filled (all left : List ℕ) (count : ℕ) (old out : List ℕ) : Type 0 where
  pub front : take count out ++ left ≡ all
  pub back : drop (length all) out ≡ drop (length all) old
  pub so_far : count + length left ≡ length all

pub filled_none : {x : ℕ} {left all out : List ℕ} → all ≡ x ∷ left → length all ≤ length out → Filled all left 1 out (set out 0 x)
filled_none {out = []} e h = absurd (omega (arith, ap length e))
filled_none {out = y ∷ out} e h = record { front = sym e; back = rw e refl; so_far = rw e (omega arith) }

pub filled_more : (part : List ℕ) {all left : List ℕ} {count n k : ℕ} {old out : List ℕ} → Filled all (part ++ left) count old out → length all ≤ length out → length part ≡ n → k ≡ n
    → Filled all left (count + n) old (put_mid count k out part)
filled_more part {all} {left} {count} {n} {k} {old} {out} f room long same =
    let m : count + (n + length left) ≡ length all = omega (arith, f.so_far, length-append part left) in
    record {
      front = ap (λ xs. xs ++ left) (take-put_mid count k out part (count + n) (omega arith) (omega arith)) ∙ append_assoc (take count out) part left ∙ f.front;
      back = drop-put_mid count k out part (length all) (omega arith) (omega arith) (omega arith) ∙ f.back;
      so_far = omega arith;
    }

pub filled_all : {all left : List ℕ} {count : ℕ} {old out : List ℕ} → Filled all left count old out → left ≡ [] → out ≡ all ++ drop (length all) old
filled_all {all} {left} {count} {old} {out} f none = grind (arith, common_steps, f.front, f.back, f.so_far, none, take-append-drop count out)
