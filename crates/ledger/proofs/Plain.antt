-- Calls that move no money: admit, list, close, delta and enter.
use Rattle.std.proofs.Common.{◌≡◌, ℕ, ◌<◌, ◌≤◌, Bool, true, false, cond, ◌&&◌, eqb, ℤ, pos, ◌-ℤ◌, sym, refl, ap, ◌∙◌, arith}
use borrow.Author.Differences.{ints}
use Rattle.std.proofs.lemmas.Bool.{true≢false}
use Rattle.terms.specs.declared.family.Family.{Family}
use Rattle.positions.specs.declared.position.Position.{Position}
use Rattle.positions.specs.Positions.{flat, units, closed, closable}
use Rattle.positions.specs.Keys.{future_key, is_future_key, line_key, series_of_key}
use Rattle.ledger.specs.declared.rows.Account.{Account}
use Rattle.ledger.specs.declared.rows.State.{State}
use Rattle.ledger.specs.declared.rows.State.TheVariants.{Trading}
use Rattle.ledger.specs.declared.rows.Terms.{Terms}
use Rattle.ledger.specs.Calls.{Series, Pricing, admit, list, close, delta, enter}
use Rattle.ledger.specs.Numbers.{key_of}
use Rattle.ledger.specs.Rows.{at, present, change}
use Rattle.ledger.specs.Book.{Book, family_in, unlisted, terms_at, state_at, position_at, is_trading, is_done, final_of}
use Rattle.ledger.specs.Post.{valued, post}
use Rattle.ledger.specs.Ledger.{Journal, final_in, given_in, position_in, fees}
use Rattle.ledger.proofs.Ring.{zero_amount}
use Rattle.ledger.proofs.RowLaws.{at_absent, at_change, total-change, rising_change, present_change, each_at, each_more, rising_revise, each_revise}
use Rattle.ledger.proofs.PositionLaws.{closed_units, closable_minis, at_line, total_line}
use Rattle.ledger.proofs.KeyLaws.{InRange}
use Rattle.ledger.proofs.Worth.{worth_then, moving, worth_mark}
use Rattle.ledger.proofs.Kept.{Good, NoMinis, Kept, on, value_of, at_terms, done_back, final_back, idle_cash, idle_fees}

kind_of_lem : (c : Bool) (p q : Account) → (cond c p q).kind ≡ cond c p.kind q.kind
kind_of_lem c p q = grind arith

same_cash : (c : Bool) (p q : Account) → (c ≡ true → p.cash ≡ q.cash) → (cond c p q).cash ≡ q.cash
same_cash c p q h = grind arith

-- a value given to a series on which no worth depends
unmoved : (f : Family) (a : ℕ) (now : ℕ → ℤ) (m : ℕ) (x : ℤ) (j : Journal) → moving a m j ≡ pos 0 → worth_then f a (λ s. cond (eqb s m) x (now s)) j ≡ worth_then f a now j
unmoved f a now m x j e = worth_mark f a now m x j ∙ rw (e, zero_amount f (x -ℤ now m)) (omega (arith, ints))

pub admit_kept : (b : Book) (j : Journal) (c h : ℕ) (p : Pricing) → present b.accounts c ≡ false → Kept b j → Kept (post b (admit c h) p) (on (admit c h) p j)
unfolding post
admit_kept b j c h p e κ = grind (arith, at_change, idle_cash, idle_fees, kind_of_lem, moving, rising_change, same_cash, total-change)

pub list_kept : (b : Book) (j : Journal) (x : Series) (v : ℤ) (p : Pricing) → present b.series (key_of x) ≡ false → Kept b j → Kept (post b (list x v) p) (on (list x v) p j)
unfolding post
list_kept b j x v p e κ =
    let n : ℕ = key_of x in
    let g : Terms → Terms = λ _. record { value = v; state = Trading } in
    let fresh : terms_at b n ≡ unlisted = at_absent unlisted n b.series e in
    let back : (s : ℕ) → is_done (at unlisted (change unlisted g n b.series) s).state ≡ false → is_done (state_at b s) ≡ false
    = λ s. done_back g n s b.series (λ _. ap (λ (t : Terms). is_done t.state) fresh) in
    let idle : (a : ℕ) → a < 65536 → moving a n j ≡ pos 0 = λ a l. rest a l (is_future_key n) refl in
    record {
      kinds = κ.kinds;
      values = grind (arith, at_terms);
      finals = λ s f t. final s f (eqb s n) refl t;
      account_order = κ.account_order;
      series_order = grind (arith, rising_change);
      position_order = κ.position_order;
      rows = κ.rows;
      counts = κ.counts;
      unit = κ.unit;
      level = κ.level;
      options = grind arith;
      futures = grind arith;
      still = grind arith;
      cash = λ a l. idle_cash _ (family_in b) a (λ s. cond (eqb s n) v (given_in j s)) j (κ.cash a l ∙ ap (λ (y : ℤ). y -ℤ fees a j) (sym (unmoved (family_in b) a (given_in j) n v j (idle a l))));
      exchange = idle_fees _ j κ.exchange;
      conserved = κ.conserved;
      absent = grind (arith, present_change);
    }
  where
    rest : (a : ℕ) → a < 65536 → (c : Bool) → is_future_key (key_of x) ≡ c → moving a (key_of x) j ≡ pos 0
    rest a l true f =
        sym (κ.futures a (key_of x) f (ap (λ (t : Terms). is_done t.state) (at_absent unlisted (key_of x) b.series e)))
        ∙ sym (κ.unit a (key_of x) l) ∙ ap units (κ.absent a (key_of x) l e)
    rest a l false f = κ.still a (key_of x) f

    final : (s : ℕ) → is_future_key s ≡ true → (c : Bool) → eqb s (key_of x) ≡ c
        → is_trading (at unlisted (change unlisted (λ _. record { value = v; state = Trading }) (key_of x) b.series) s).state ≡ false
        → final_of (at unlisted (change unlisted (λ _. record { value = v; state = Trading }) (key_of x) b.series) s) ≡ final_in j s
    final s f true q t =
        absurd (true≢false (sym (ap (λ (y : Terms). is_trading y.state) (at_terms (λ _. record { value = v; state = Trading }) (key_of x) s b.series
        ∙ ap (λ (c : Bool). cond c (record { value = v; state = Trading }) (terms_at b s)) q)) ∙ t))
    final s f false q t = final_back (λ _. record { value = v; state = Trading }) (key_of x) s b.series (final_in j s) q (κ.finals s f) t

pub close_kept : (b : Book) (j : Journal) (x : Series) (c k : ℕ) (p : Pricing) → InRange x → c < 65536 → 1 ≤ k
    → closable k (position_at b (key_of x) c) ≡ true
    → present b.series (key_of x) ≡ true → Kept b j → Kept (post b (close x c k) p) (on (close x c k) p j)
unfolding post
close_kept b j x c k p r l h e q κ =
    let n : ℕ = key_of x in
    let key : ℕ = line_key n c in
    record {
      kinds = κ.kinds;
      values = κ.values;
      finals = κ.finals;
      account_order = κ.account_order;
      series_order = κ.series_order;
      position_order = grind (arith, rising_revise);
      rows = each_revise (closed k) key b.positions Good κ.rows (λ g. record {
        held = g;
        minis = λ t. absurd (closable_minis k (position_at b n c) h (each_at NoMinis flat key b.positions (λ _. refl) (each_more Good NoMinis b.positions (λ i y g. g.minis) κ.rows) t) e);
        inside = grind arith;
      });
      counts = grind (arith, at_line);
      unit = λ a s m. same (eqb s n && eqb a c) (position_in a s j) (κ.unit a s m);
      level = λ s. total_line (closed k) (pos 0) key s b.positions (λ y. omega (arith, ints, closed_units k y)) ∙ omega (arith, ints, κ.level s, nothing (eqb (series_of_key key) s));
      options = grind arith;
      futures = grind arith;
      still = grind arith;
      cash = grind arith;
      exchange = idle_fees _ j κ.exchange;
      conserved = κ.conserved;
      absent = grind arith;
    }
  where
    same : (t : Bool) (y : Position) {z : ℤ} → units y ≡ z → units (cond t (closed k y) y) ≡ z
    same true y g = closed_units k y ∙ g
    same false y g = g

    nothing : (t : Bool) → cond t (pos 0) (pos 0) ≡ pos 0
    nothing true = refl
    nothing false = refl

    none_still : (t y : Bool) (m : Position) → (t ≡ true → ⊥) → m ≡ flat → cond (t && y) (closed k m) m ≡ flat
    none_still true y m i g = absurd (i refl)
    none_still false y m i g = g

pub delta_kept : (b : Book) (j : Journal) (x : Series) (d : ℤ) (p : Pricing) → is_future_key (key_of x) ≡ false → Kept b j → Kept (post b (delta x d) p) (on (delta x d) p j)
unfolding post
delta_kept b j x d p e κ =
    let n : ℕ = key_of x in
    let back : (s : ℕ) → is_done (at unlisted (change unlisted (valued d) n b.series) s).state ≡ false → is_done (state_at b s) ≡ false = λ s. done_back (valued d) n s b.series (λ q. q) in
    record {
      kinds = κ.kinds;
      values = grind (arith, at_terms);
      finals = grind (arith, at_terms);
      account_order = κ.account_order;
      series_order = grind (arith, rising_change);
      position_order = κ.position_order;
      rows = κ.rows;
      counts = κ.counts;
      unit = κ.unit;
      level = κ.level;
      options = grind arith;
      futures = grind arith;
      still = grind arith;
      cash = λ a l. idle_cash _ (family_in b) a (λ s. cond (eqb s n) d (given_in j s)) j (κ.cash a l ∙ ap (λ (y : ℤ). y -ℤ fees a j) (sym (unmoved (family_in b) a (given_in j) n d j (κ.still a n e))));
      exchange = idle_fees _ j κ.exchange;
      conserved = κ.conserved;
      absent = grind (arith, present_change);
    }

pub trading_open : (q : State) → is_trading q ≡ true → is_done q ≡ false
trading_open q e = grind arith

pub enter_kept : (b : Book) (j : Journal) (m f x : ℕ) (p : Pricing) → is_trading (state_at b (future_key m)) ≡ true → Kept b j → Kept (post b (enter m f x) p) (on (enter m f x) p j)
unfolding post
enter_kept b j m f x p e κ = grind (arith, at_terms, idle_cash, idle_fees, moving, present_change, rising_change, trading_open, value_of)
