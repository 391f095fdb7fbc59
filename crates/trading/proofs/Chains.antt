-- Chains of tests: what a passed one and a refused one say.
use Rattle.std.proofs.Common.{◌≡◌, ℕ, Bool, true, false, Ok, Err, refl, arith}
use Rattle.terms.specs.declared.refusal.Refusal.{Refusal}
use Rattle.ledger.specs.Judge.{Verdict, need, also}

-- one test alone
pub alone : (c : Bool) (e r : Refusal) → need c e (Ok tt) ≡ Err r → (c ≡ false) × (r ≡ e)
unfolding need
alone true e r h = absurd (let z : ◌≡◌ {A = ℕ} 0 1 = cc in omega arith)
alone false e r h = (refl, cc)

pub also_need : (c : Bool) (e : Refusal) (v w : Verdict) → also (need c e v) w ≡ need c e (also v w)
unfolding need also
also_need true e v w = refl
also_need false e v w = refl

pub also_ok : (u w : Verdict) → u ≡ Ok tt → also u w ≡ w
unfolding also
also_ok u w h = rw h refl

pub also_err : (u w : Verdict) (e : Refusal) → u ≡ Err e → also u w ≡ Err e
unfolding also
also_err u w e h = rw h refl
