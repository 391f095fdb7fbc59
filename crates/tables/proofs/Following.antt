-- Tables that follow the rules: a refused event leaves them, an accepted one is posted.
use Rattle.std.proofs.Common.{◌≡◌, Bool, true, false, Ok, Err, sym, refl, ap, ◌∙◌}
use Rattle.std.proofs.lemmas.Bool.{true≢false, false≢true}
use Rattle.terms.specs.declared.refusal.Refusal.{Refusal}
use Rattle.ledger.specs.Calls.{Event}
use Rattle.ledger.specs.Judge.{Verdict, need, also, judge_call, judge_opening}
use Rattle.ledger.specs.Post.{post}
use Rattle.ledger.specs.Runs.{judge, afterwards}
use Rattle.tables.specs.declared.tables.Tables.{Tables}
use Rattle.tables.specs.Model.{model_of, spaces_of, Follows}

pub refused : (e : Event) (t u : Tables) (r : Refusal) → model_of u ≡ model_of t → judge (model_of t) e ≡ Err r → Follows e t u (Err r)
unfolding afterwards
refused e t u r s h = record { answer = sym h; book = s ∙ sym (ap (afterwards (model_of t) e) h) }

pub accepted : (e : Event) (t u : Tables) → judge (model_of t) e ≡ Ok tt → model_of u ≡ post (model_of t) e.call e.pricing → Follows e t u (Ok tt)
unfolding afterwards
accepted e t u h p = record { answer = sym h; book = p ∙ sym (ap (afterwards (model_of t) e) h) }

-- ---- the opening comes first
pub judge_is : (t : Tables) (e : Event) → judge_opening t.family (spaces_of t) ≡ Ok tt
    → judge (model_of t) e ≡ judge_call (model_of t) e.call e.pricing e.scratch (post (model_of t) e.call e.pricing)
unfolding judge also
judge_is t e h = ap (λ (v : Verdict). also v (judge_call (model_of t) e.call e.pricing e.scratch (post (model_of t) e.call e.pricing))) h

pub never_opened : (t : Tables) (e : Event) (r : Refusal) → judge_opening t.family (spaces_of t) ≡ Err r → judge (model_of t) e ≡ Err r
unfolding judge also
never_opened t e r h = ap (λ (v : Verdict). also v (judge_call (model_of t) e.call e.pricing e.scratch (post (model_of t) e.call e.pricing))) h

-- ---- one test of a chain
pub passes : (c : Bool) (e : Refusal) (v : Verdict) → c ≡ true → need c e v ≡ v
unfolding need
passes true e v h = refl
passes false e v h = absurd (false≢true h)

pub fails : (c : Bool) (e : Refusal) (v : Verdict) → c ≡ false → need c e v ≡ Err e
unfolding need
fails true e v h = absurd (true≢false h)
fails false e v h = refl
