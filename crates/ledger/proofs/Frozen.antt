-- The net units of a series that has ended, and the final price of a month that is Fixed, no longer change: so the worth may be read from the whole journal.
use Rattle.std.proofs.Common.{◌≡◌, ℕ, true, false, cond, eqb, [], ◌∷◌, ℤ, pos, ◌+ℤ◌, refl, arith}
use borrow.Author.Differences.{ints}
use Rattle.terms.specs.declared.family.Family.{Family}
use Rattle.positions.specs.Keys.{future_key}
use Rattle.ledger.specs.declared.rows.State.{State}
use Rattle.ledger.specs.Calls.{Trade, Call, Pricing, Event, admit, list, trade, close, mark, delta, enter, exercise, settle}
use Rattle.ledger.specs.Numbers.{series_kind, is_future, key_of}
use Rattle.ledger.specs.Book.{Book, state_at, is_trading, is_done}
use Rattle.ledger.specs.Post.{post}
use Rattle.ledger.specs.Ledger.{Journal, final_in, net_of, net, gain_by, gains}
use Rattle.ledger.specs.Laws.{noted}
use Rattle.ledger.proofs.RowLaws.{at_absent}
use Rattle.ledger.proofs.Worth.{gain_then, worth_then}
use Rattle.ledger.proofs.Kept.{on, at_terms}
use Rattle.ledger.proofs.Accepted.{Passed}

abbrev EndedBy : Book → Call → Type 0
EndedBy b (admit a h) = Unit {0}
EndedBy b (list x v) = Unit {0}
EndedBy b (trade t) = Unit {0}
EndedBy b (close x a k) = Unit {0}
EndedBy b (mark m x) = Unit {0}
EndedBy b (delta x d) = Unit {0}
EndedBy b (enter m f x) = Unit {0}
EndedBy b (exercise x level) = is_done (state_at b (key_of x)) ≡ true
EndedBy b (settle x) = is_future (series_kind x) ≡ false → (is_done (state_at b (key_of x)) ≡ true) × (is_trading (state_at b (future_key x.month)) ≡ false)

abbrev Ended : Book → Journal → Type 0
Ended b [] = Unit {0}
Ended b (e ∷ j) = (e.accepted ≡ true → EndedBy b e.call) × Ended b j

pub record Frozen (b : Book) (j : Journal) : Type 0 where
  pub ended : Ended b j
  pub same : (u : Family) (a : ℕ) (now : ℕ → ℤ) → gains u a now (λ s. net a s j) (final_in j) j ≡ worth_then u a now j

-- ---- states only go on
record Grows (b c : Book) : Type 0 where
  ends : (s : ℕ) → is_done (state_at b s) ≡ true → is_done (state_at c s) ≡ true
  fixes : (s : ℕ) → is_trading (state_at b s) ≡ false → is_trading (state_at c s) ≡ false

ended_more : (b c : Book) → Grows b c → (j : Journal) → Ended b j → Ended c j
ended_more b c g [] o = tt
ended_more b c g (e ∷ j) o = grind (arith, ended_more b c g j o.1)

-- ---- the sums
gains_same : (b : Book) (u : Family) (a : ℕ) (now N M : ℕ → ℤ) (F G : ℕ → ℕ) → ((s : ℕ) → is_done (state_at b s) ≡ true → N s ≡ M s) → ((s : ℕ) → is_trading (state_at b s) ≡ false → F s ≡ G s)
    → (j : Journal) → Ended b j → gains u a now N F j ≡ gains u a now M G j
gains_same b u a now N M F G h g [] o = refl
gains_same b u a now N M F G h g (e ∷ j) o = grind (arith, gains_same b u a now N M F G h g j o.1)

onward : (b : Book) (j : Journal) (c : Call) (p : Pricing) → Frozen b j → Grows b (post b c p) → EndedBy (post b c p) c
    → ((u : Family) (a : ℕ) (now : ℕ → ℤ) → gain_by c u a now (λ s. net a s (on c p j)) (final_in (on c p j)) ≡ gain_then c u a now j)
    → ((a s : ℕ) → is_done (state_at b s) ≡ true → net a s (on c p j) ≡ net a s j) → ((s : ℕ) → is_trading (state_at b s) ≡ false → final_in (on c p j) s ≡ final_in j s)
    → Frozen (post b c p) (on c p j)
onward b j c p φ i d g n f = record {
  ended = (λ _. d, ended_more b (post b c p) i j φ.ended);
  same = λ u a now. omega (
    arith,
    ints,
    g u a now,
    φ.same u a now,
    gains_same b u a now (λ s. net a s (on c p j)) (λ s. net a s j) (final_in (on c p j)) (final_in j) (n a) f j φ.ended,
  );
}

pub frozen_refused : (b : Book) (j : Journal) (e : Event) → Frozen b j → Frozen b (noted e false ∷ j)
frozen_refused b j e φ = grind arith

trading_open : (q : State) → is_trading q ≡ true → is_done q ≡ true → ⊥
trading_open q e d = grind arith

-- a series that trades has not ended
other_net : (b : Book) (j : Journal) (t : Trade) → is_done (state_at b (key_of t.series)) ≡ false
    → (a s : ℕ) → is_done (state_at b s) ≡ true → cond (eqb s (key_of t.series)) (net_of a t) (pos 0) +ℤ net a s j ≡ net a s j
other_net b j t h a s d = grind arith

ruleset growing = (at_terms, at_absent, trading_open)

pub frozen_call : (b : Book) (j : Journal) (c : Call) (p : Pricing) → Passed b c (post b c p) → Frozen b j → Frozen (post b c p) (on c p j)
unfolding post
frozen_call b j (admit d h) p π φ = onward b j (admit d h) p φ (grind (arith, growing)) (grind (arith, growing)) (grind arith) (grind arith) (grind arith)
frozen_call b j (list x v) p π φ = onward b j (list x v) p φ (grind (arith, growing)) (grind (arith, growing)) (grind arith) (grind arith) (grind arith)
frozen_call b j (trade t) p π φ = onward b j (trade t) p φ (grind (arith, growing)) (grind (arith, growing)) (grind arith) (other_net b j t π.live) (grind arith)
frozen_call b j (close x d k) p π φ = onward b j (close x d k) p φ (grind (arith, growing)) (grind (arith, growing)) (grind arith) (grind arith) (grind arith)
frozen_call b j (mark m x) p π φ = onward b j (mark m x) p φ (grind (arith, growing)) (grind (arith, growing)) (grind arith) (grind arith) (grind arith)
frozen_call b j (delta x v) p π φ = onward b j (delta x v) p φ (grind (arith, growing)) (grind (arith, growing)) (grind arith) (grind arith) (grind arith)
frozen_call b j (enter m f x) p π φ = onward b j (enter m f x) p φ (grind (arith, growing)) (grind (arith, growing)) (grind arith) (grind arith) (grind arith)
frozen_call b j (exercise x level) p π φ = onward b j (exercise x level) p φ (grind (arith, growing)) (grind (arith, growing)) (grind arith) (grind arith) (grind arith)
frozen_call b j (settle x) p π φ = onward b j (settle x) p φ (grind (arith, growing)) (grind (arith, growing)) (grind arith) (grind arith) (grind arith)
