-- Every run leaves the book balanced and the accounts within their limits.
use Rattle.std.proofs.Common.{◌≡◌, ℕ, ◌<◌, false, eqb, List, [], ◌∷◌, ◌++◌, ℤ, ◌-ℤ◌, Ok, Err, sym, refl, ap, ◌∙◌, subst, arith}
use Rattle.std.proofs.lemmas.Grind.{common_steps}
use Rattle.std.proofs.lemmas.Bool.{true≢false}
use Rattle.registers.specs.Rows.{lookup}
use Rattle.registers.specs.Sums.{total_ℤ}
use Rattle.terms.specs.declared.family.Family.{Family}
use Rattle.positions.specs.Positions.{flat, units}
use Rattle.positions.specs.Keys.{line_key, series_of_key}
use Rattle.ledger.specs.Calls.{Call, Pricing, Event}
use Rattle.ledger.specs.Numbers.{family_of}
use Rattle.ledger.specs.Rows.{at}
use Rattle.ledger.specs.Book.{Spaces, Book, opened}
use Rattle.ledger.specs.Post.{post}
use Rattle.ledger.specs.Judge.{Verdict, accepted}
use Rattle.ledger.specs.Runs.{judge, afterwards, step, run}
use Rattle.ledger.specs.Ledger.{Journal, given_in, position_in, worth, fees, exposure}
use Rattle.ledger.specs.Laws.{noted, journal, Held, Quiet, AllQuiet, Limited, BalancedAfterEveryRun}
use Rattle.ledger.specs.Sound.{Sound, SoundAfterEveryRun}
use Rattle.ledger.proofs.RowLaws.{each_more, total_kept, below_same, below_zero}
use Rattle.ledger.proofs.CashLaws.{brings_below}
use Rattle.ledger.proofs.Worth.{worth_then}
use Rattle.ledger.proofs.Kept.{Good, Kept}
use Rattle.ledger.proofs.Accepted.{also_so, Passed, passed}
use Rattle.ledger.proofs.Steps.{by_call}
use Rattle.ledger.proofs.Frozen.{Frozen, frozen_refused, frozen_call}
use Rattle.ledger.proofs.Limits.{quiet_within}
use Rattle.ledger.proofs.Sounds.{owned, sound_call}

-- ---- one event
has_passed : (b : Book) (e : Event) → judge b e ≡ Ok tt → Passed b e.call (post b e.call e.pricing)
unfolding judge
has_passed b e h = passed b e.call e.pricing e.scratch (post b e.call e.pricing) (also_so _ _ h).1

-- a refused entry changes nothing
refused : (b : Book) (j : Journal) (e : Event) → Kept b j → Kept b (noted e false ∷ j)
refused b j e κ = grind arith

stepped : (b : Book) (j : Journal) (e : Event) (v : Verdict) → judge b e ≡ v → Kept b j → Kept (afterwards b e v) (noted e (accepted v) ∷ j)
unfolding afterwards
stepped b j e (Ok tt) h κ = by_call b j e.call e.pricing (has_passed b e h) κ
stepped b j e (Err r) h κ = refused b j e κ

ran : (es : List Event) (b : Book) (j : Journal) → Kept b j → Kept (run b es) (journal b es j)
unfolding run journal
ran [] b j κ = κ
ran (e ∷ es) b j κ = ran es (step b e) (noted e (accepted (judge b e)) ∷ j) (stepped b j e (judge b e) refl κ)

froze : (b : Book) (j : Journal) (e : Event) (v : Verdict) → judge b e ≡ v → Frozen b j → Frozen (afterwards b e v) (noted e (accepted v) ∷ j)
unfolding afterwards
froze b j e (Ok tt) h φ = frozen_call b j e.call e.pricing (has_passed b e h) φ
froze b j e (Err r) h φ = frozen_refused b j e φ

froze_run : (es : List Event) (b : Book) (j : Journal) → Frozen b j → Frozen (run b es) (journal b es j)
unfolding run journal
froze_run [] b j φ = φ
froze_run (e ∷ es) b j φ = froze_run es (step b e) (noted e (accepted (judge b e)) ∷ j) (froze b j e (judge b e) refl φ)

worth_is : (b : Book) (u : Family) (a : ℕ) (j : Journal) → Frozen b j → worth u a j ≡ worth_then u a (given_in j) j
unfolding worth
worth_is b u a j φ = φ.same u a (given_in j)

start : (f : ℕ) (z : Spaces) → Kept (opened f z) []
unfolding lookup total_ℤ
start f z = record {
  kinds = λ a. refl;
  values = λ s. refl;
  finals = λ s i t. absurd (true≢false t);
  account_order = tt;
  series_order = tt;
  position_order = tt;
  rows = tt;
  counts = λ a s l. refl;
  unit = λ a s l. refl;
  level = λ s. refl;
  options = λ a s i d. refl;
  futures = λ a s i d. refl;
  still = λ a s i. refl;
  cash = λ a l. refl;
  exchange = sym (below_zero 65536);
  conserved = refl;
  absent = λ a s l q. refl;
}

-- ---- the limits
post_family : (b : Book) (c : Call) (p : Pricing) → (post b c p).family ≡ b.family
unfolding post
post_family b c p = grind arith

step_family : (b : Book) (e : Event) (v : Verdict) → (afterwards b e v).family ≡ b.family
unfolding afterwards
step_family b e v = grind (arith, post_family)

run_family : (es : List Event) (b : Book) → (run b es).family ≡ b.family
unfolding run
run_family [] b = refl
run_family (e ∷ es) b = run_family es (step b e) ∙ step_family b e (judge b e)

refused_same : (j : Journal) (e : Event) (a : ℕ) → exposure (noted e false ∷ j) a ≡ exposure j a
unfolding exposure
refused_same j e a = refl

quiet_step : (b : Book) (j : Journal) (e : Event) (v : Verdict) (a : ℕ) → a < 65536 → Quiet e.call → judge b e ≡ v → Kept b j → Limited b.family a j (noted e (accepted v) ∷ j)
quiet_step b j e v a l q h κ = grind (arith, has_passed, quiet_within, refused_same)

further : (f a : ℕ) (i j k : Journal) → Limited f a i j → Limited f a j k → Limited f a i k
further f a i j k h g = omega arith

quiet_run : (fs : List Event) (b : Book) (i j : Journal) (a : ℕ) → a < 65536 → AllQuiet fs → Kept b j → Limited b.family a i j → Limited b.family a i (journal b fs j)
unfolding journal
quiet_run [] b i j a l q κ h = h
quiet_run (e ∷ fs) b i j a l q κ h = grind (arith, common_steps, further, quiet_step, step_family, stepped, quiet_run fs (step b e) i (noted e (accepted (judge b e)) ∷ j) a l q.1 (stepped b j e (judge b e) refl κ))

journal_more : (es fs : List Event) (b : Book) (j : Journal) → journal b (es ++ fs) j ≡ journal (run b es) fs (journal b es j)
unfolding journal run
journal_more [] fs b j = refl
journal_more (e ∷ es) fs b j = journal_more es fs (step b e) (noted e (accepted (judge b e)) ∷ j)

pub lawful : BalancedAfterEveryRun
lawful f z = record {
  balanced = λ es.
      let κ : Kept (run (opened f z) es) (journal (opened f z) es []) = ran es (opened f z) [] (start f z) in
      record {
        counts = κ.counts;
        level = λ s. total_kept (λ _ p. units p) (λ k. eqb (series_of_key k) s) (run (opened f z) es).positions ∙ κ.level s;
        even = λ s.
            sym (below_same 65536 (λ a. units (at flat (run (opened f z) es).positions (line_key s a))) (λ a. units (position_in a s (journal (opened f z) es []))) (λ a l. ap units (κ.counts a s l)))
            ∙ sym (brings_below (λ _ y. units y) s (run (opened f z) es).positions (λ _. refl) κ.position_order)
            ∙ total_kept (λ _ p. units p) (λ k. eqb (series_of_key k) s) (run (opened f z) es).positions ∙ κ.level s;
        cash = λ a l. κ.cash a l ∙ ap (λ (y : ℤ). y -ℤ fees a (journal (opened f z) es []))
            (sym (worth_is (run (opened f z) es) (family_of (run (opened f z) es).family) a (journal (opened f z) es []) (froze_run es (opened f z) [] (record { ended = tt; same = λ u a now. refl }))));
        exchange = κ.exchange;
        conserved = κ.conserved;
        account_order = κ.account_order;
        series_order = κ.series_order;
        position_order = κ.position_order;
        held = each_more Good Held (run (opened f z) es).positions (λ k y g. g.held) κ.rows;
      };
  limited = λ es fs q a l.
      let b : Book = run (opened f z) es in
      let i : Journal = journal (opened f z) es [] in
      rw (journal_more es fs (opened f z) [])
      (subst (λ (y : ℕ). Limited y a i (journal b fs i)) (run_family es (opened f z))
      (quiet_run fs b i i a l q (ran es (opened f z) [] (start f z)) (omega arith)));
}

-- ---- soundness
sound_start : (f : ℕ) (z : Spaces) → Sound (opened f z)
unfolding lookup
sound_start f z = grind arith

sound_step : (b : Book) (j : Journal) (e : Event) (v : Verdict) → judge b e ≡ v → Kept b j → Sound b → Sound (afterwards b e v)
unfolding afterwards
sound_step b j e (Ok tt) h κ σ = sound_call b j e.call e.pricing (has_passed b e h) κ σ
sound_step b j e (Err r) h κ σ = σ

sound_run : (es : List Event) (b : Book) (j : Journal) → Kept b j → Sound b → Sound (run b es)
unfolding run
sound_run [] b j κ σ = σ
sound_run (e ∷ es) b j κ σ = sound_run es (step b e) (noted e (accepted (judge b e)) ∷ j) (stepped b j e (judge b e) refl κ) (sound_step b j e (judge b e) refl κ σ)

pub sound : SoundAfterEveryRun
sound f z es =
    let σ : Sound (run (opened f z) es) = sound_run es (opened f z) [] (start f z) (sound_start f z) in
    (σ, owned (run (opened f z) es) (journal (opened f z) es []) (ran es (opened f z) [] (start f z)) σ)
