-- A book that some history leads to: the next call leads on, and the laws hold.
use Rattle.std.proofs.Common.{◌≡◌, ℕ, List, [], ◌∷◌, ◌++◌, sym, refl, ap, ◌∙◌, subst}
use mathlib.Core.Bool.{Bool-set}
use mathlib.Core.Logic.{∥∥₁_map, ∥∥₁_elim}
use native.Mathlib.Bridge.{le_prop}
use lib.IntN.{ℤ_set}
use Rattle.positions.specs.declared.position.Position.{Position}
use Rattle.registers.specs.Rows.{Rows}
use Rattle.ledger.specs.Calls.{Event}
use Rattle.ledger.specs.Book.{Spaces, Book, opened}
use Rattle.ledger.specs.Rows.{Each}
use Rattle.ledger.specs.Runs.{step, run}
use Rattle.ledger.specs.Laws.{journal, Balanced, Limited}
use Rattle.ledger.specs.Sound.{Sound, Owned}
use Rattle.ledger.specs.Reached.{Reached, Lasting}
use Rattle.ledger.proofs.Whole.{lawful, sound}

run_push : (es : List Event) (b : Book) (e : Event) → run b (es ++ e ∷ []) ≡ step (run b es) e
unfolding run
run_push [] b e = refl
run_push (d ∷ es) b e = run_push es (step b d) e

begins : (f : ℕ) (z : Spaces) → Reached (opened f z)
unfolding run
begins f z = ∣ record { family = f; spaces = z; events = []; leads = refl } ∣₁

-- what code may rely on has one proof at most
position_set : (p q : Position) (e f : p ≡ q) → e ≡ f
position_set p q e f = λ i k. record {
  fulls = ℤ_set p.fulls q.fulls (ap (λ (r : Position). r.fulls) e) (ap (λ (r : Position). r.fulls) f) i k;
  minis = ℤ_set p.minis q.minis (ap (λ (r : Position). r.minis) e) (ap (λ (r : Position). r.minis) f) i k;
}

sound_prop : (b : Book) (s t : Sound b) → s ≡ t
sound_prop b s t = λ i. record {
  cash = λ a l. Bool-set _ _ (s.cash a l) (t.cash a l) i;
  exchange = Bool-set _ _ s.exchange t.exchange i;
  counts = λ a n l. Bool-set _ _ (s.counts a n l) (t.counts a n l) i;
  values = λ n. le_prop (s.values n) (t.values n) i;
  finals = λ n. le_prop (s.finals n) (t.finals n) i;
  holders = λ a n l q. position_set _ _ (s.holders a n l q) (t.holders a n l q) i;
  listed = λ a n l q. position_set _ _ (s.listed a n l q) (t.listed a n l q) i;
  ended = λ a n l q. position_set _ _ (s.ended a n l q) (t.ended a n l q) i;
  months = λ n q. Bool-set _ _ (s.months n q) (t.months n q) i;
  room = Bool-set _ _ s.room t.room i;
}

each_prop : {V : Type 0} (P : ℕ → V → Type 0) → ((k : ℕ) (v : V) (p q : P k v) → p ≡ q) → (rs : Rows V) (s t : Each P rs) → s ≡ t
each_prop P h [] s t = refl
each_prop P h (r ∷ rs) s t = λ i. (h r.0 r.1 s.0 t.0 i, each_prop P h rs s.1 t.1 i)

pub lasting : Lasting
lasting = record {
  start = begins;
  onward = λ b e r. ∥∥₁_map r (λ h. record {
    family = h.family;
    spaces = h.spaces;
    events = h.events ++ e ∷ [];
    leads = ap (λ (x : Book). step x e) h.leads ∙ sym (run_push h.events (opened h.family h.spaces) e);
  });
  upheld = λ b r. ∥∥₁_map r (λ h. record {
    history = h;
    balanced = subst (λ (x : Book). Balanced x (journal (opened h.family h.spaces) h.events [])) (sym h.leads) ((lawful h.family h.spaces).balanced h.events);
    limited = λ es fs q t a l.
        subst (λ (y : List Event). Limited h.family a (journal (opened h.family h.spaces) es []) (journal (opened h.family h.spaces) y [])) q
        ((lawful h.family h.spaces).limited es fs t a l);
  });
  sound = λ b r. ∥∥₁_elim r (sound_prop b) (λ h. subst Sound (sym h.leads) (sound h.family h.spaces h.events).0);
  owned = λ b r. ∥∥₁_elim r (each_prop _ (λ k p. Bool-set _ _) b.positions) (λ h. subst Owned (sym h.leads) (sound h.family h.spaces h.events).1);
}
