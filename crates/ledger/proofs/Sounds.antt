-- Every run leaves a sound book.
use Rattle.std.proofs.Common.{◌≡◌, ℕ, ◌*◌, ◌<◌, ◌≤◌, Bool, true, false, cond, not, ◌||◌, eqb, ltb, [], ◌∷◌, length, ℤ, pos, ◌+ℤ◌, ◌-ℤ◌, nat_abs, None, Option, sym, refl, ap, ◌∙◌, subst, arith}
use Rattle.std.proofs.lemmas.Grind.{common_steps}
use borrow.Author.Differences.{ints}
use Rattle.std.specs.Option.{option_map}
use Rattle.std.proofs.lemmas.Bool.{eqb-true, eq-eqb, ne_eqb, and_parts, not-false, true≢false, false≢true}
use Rattle.registers.specs.Rows.{Rows, Rising}
use Rattle.terms.specs.declared.kinds.SeriesKind.{SeriesKind}
use Rattle.positions.specs.declared.position.Position.{Position}
use Rattle.positions.specs.Positions.{flat, units, is_flat, closed, closable, in_range}
use Rattle.positions.specs.Money.{amount, balance_in}
use Rattle.positions.specs.Keys.{future_key, line_key, series_of_key, account_of_key}
use Rattle.ledger.specs.declared.rows.Account.{Account}
use Rattle.ledger.specs.declared.rows.State.TheVariants.{Trading, Fixed, Done}
use Rattle.ledger.specs.declared.rows.Terms.{Terms}
use Rattle.ledger.specs.Calls.{Series, Trade, Call, Pricing, admit, list, trade, close, mark, delta, enter, exercise, settle}
use Rattle.ledger.specs.Numbers.{series_kind, is_future, delta_range, first_in, key_of, future_of_key}
use Rattle.ledger.specs.Rows.{at, present, change, in_series, Each}
use Rattle.ledger.specs.Book.{Book, book, family_in, nobody, unlisted, kind_at, cash_at, terms_at, value_at, state_at, position_at, is_done, final_of}
use Rattle.ledger.specs.Charges.{payoff_at, lapses_at, bought_fees}
use Rattle.ledger.specs.Post.{pay, pay_each, valued, stated, post_mark, post_end, post_final, settle_fees, post_cash, turned, assigned, post_exercise, post}
use Rattle.ledger.specs.Judge.{fits, holder_in, overdrawn}
use Rattle.ledger.specs.Ledger.{Journal, kind_in, position_in}
use Rattle.ledger.specs.Sound.{Sound}
use Rattle.ledger.proofs.Ring.{zero_amount}
use Rattle.ledger.proofs.RowLaws.{at_change, present_keep, present_change, each_kept, flat_is, at_outside, length-outside}
use Rattle.ledger.proofs.PositionLaws.{assigned_none, bought_fees_none, series_of_key_lem, account_of_key_lem, at_line}
use Rattle.ledger.proofs.CashLaws.{cash_pay, cash_pay_each}
use Rattle.ledger.proofs.KeyLaws.{key_future, key_month}
use Rattle.ledger.proofs.Kept.{Good, Kept, on, at_terms}
use Rattle.ledger.proofs.Accepted.{ListPassed, TradePassed, ClosePassed, MarkPassed, DeltaPassed, EnterPassed, ExercisePassed, SettlePassed, Passed}
use Rattle.ledger.proofs.Exercises.{turned_zero}
use Rattle.ledger.proofs.Steps.{by_call}
use Rattle.ledger.proofs.Presence.{length-change, length-revise, present_from, present_own, first_each, each_back, rows_found, each_found, present_pay, present_pay_each, length-pay_each}

-- ---- nobody is overdrawn
none_from : (o : Option ℕ) → option_map account_of_key o ≡ None → o ≡ None
none_from o e = grind arith

cleared : (b : Book) (s m : ℕ) (c : Book) → overdrawn b s m c ≡ None → (a : ℕ) → a < 65536 → is_flat (position_at b s a) ≡ false → holder_in m c a ≡ true
cleared b s m c e a l g =
    let q : eqb (series_of_key (line_key s a)) s ≡ true → not (holder_in m c (account_of_key (line_key s a))) ≡ false
    = each_found (λ k _. eqb (series_of_key k) s ≡ true → not (holder_in m c (account_of_key k)) ≡ false) flat (line_key s a) b.positions
    (each_back (λ k _. not (holder_in m c (account_of_key k)) ≡ false) (λ k. eqb (series_of_key k) s) b.positions
    (first_each (λ k _. not (holder_in m c (account_of_key k))) (in_series s b.positions) (none_from _ e))) (λ i. true≢false (ap is_flat (sym i) ∙ g)) in
    not-false (holder_in m c a) (sym (ap (λ (i : ℕ). not (holder_in m c i)) (account_of_key_lem s a l)) ∙ q (eq-eqb _ _ (series_of_key_lem s a l)))

cleared_cash : (b : Book) (j : Journal) (s m : ℕ) (f : ℕ → Position → ℤ) (c : Book) → Kept b j → Sound b → ((a : ℕ) → f a flat ≡ pos 0) → c.accounts ≡ pay_each f (in_series s b.positions) b.accounts
    → overdrawn b s m c ≡ None → (a : ℕ) → a < 65536 → balance_in (cash_at c a) ≡ true
cleared_cash b j s m f c κ σ z q e a l = ways (is_flat (at flat b.positions (line_key s a))) refl
  where
    nothing : (y : ℤ) → y ≡ pos 0 → cash_at b a +ℤ y ≡ cash_at b a
    nothing y i = omega (arith, ints)

    ways : (x : Bool) → is_flat (at flat b.positions (line_key s a)) ≡ x → balance_in (cash_at c a) ≡ true
    ways false h = (and_parts (in_range (at flat c.positions (line_key m a))) (balance_in (cash_at c a)) (cleared b s m c e a l h)).1
    ways true h =
        subst (λ (y : ℤ). balance_in y ≡ true)
        (sym (ap (λ (cs : Rows Account). (at nobody cs a).cash) q ∙ cash_pay_each f s a b.positions b.accounts l (z a) κ.position_order
        ∙ ap (λ (y : Position). cash_at b a +ℤ f a y) (flat_is _ h) ∙ nothing (f a flat) (z a)))
        (σ.cash a l)

-- ---- terms
abbrev Small : Terms → Type 0
Small t = (nat_abs t.value ≤ 10000000) × (final_of t ≤ 10000000)

small_change : (g : Terms → Terms) (n : ℕ) (rs : Rows Terms) → (Small (at unlisted rs n) → Small (g (at unlisted rs n))) → ((s : ℕ) → Small (at unlisted rs s)) → (s : ℕ) → Small (at unlisted (change unlisted g n rs) s)
small_change g n rs h o s = grind (arith, at_terms)

small_valued : (v : ℤ) (t : Terms) → nat_abs v ≤ 10000000 → Small t → Small (valued v t)
small_valued v t h o = grind arith

small : (b : Book) → Sound b → (s : ℕ) → Small (terms_at b s)
small b σ s = (σ.values s, σ.finals s)

-- a Done series was Done before, unless it has just ended
done_from : (g : Terms → Terms) (n s : ℕ) (rs : Rows Terms) → is_done (at unlisted (change unlisted g n rs) s).state ≡ true
    → (eqb s n ≡ true → is_done (g (at unlisted rs n)).state ≡ true → is_done (at unlisted rs s).state ≡ true) → is_done (at unlisted rs s).state ≡ true
done_from g n s rs e h = grind (arith, at_terms)

-- ---- rooms
fits_less : (b c : Book) → c.spaces ≡ b.spaces → length c.accounts ≤ length b.accounts → length c.series ≤ length b.series → length c.positions ≤ length b.positions → fits b ≡ true → fits c ≡ true
fits_less b c e x y z h = grind arith

-- ---- months
abbrev Months : Rows Terms → Type 0
Months rs = (s : ℕ) → present rs s ≡ true → present rs (future_of_key s) ≡ true

months_change : (g : Terms → Terms) (n : ℕ) (rs : Rows Terms) → present (change unlisted g n rs) (future_of_key n) ≡ true → Months rs → Months (change unlisted g n rs)
months_change g n rs h o s e = grind (arith, present_from, present_keep)

-- the terms of a listed series change
months_there : (g : Terms → Terms) (n : ℕ) (rs : Rows Terms) → present rs n ≡ true → Months rs → Months (change unlisted g n rs)
months_there g n rs t o = months_change g n rs (present_keep unlisted g n (future_of_key n) rs (o n t)) o

not_flat : (l : Position) → is_flat l ≡ false → l ≡ flat → ⊥
not_flat l h e = true≢false (ap is_flat (sym e) ∙ h)

-- each position has its account
pub owned : (b : Book) (j : Journal) → Kept b j → Sound b → Each (λ k l. present b.accounts (account_of_key k) ≡ true) b.positions
owned b j κ σ = both b.positions κ.rows (rows_found flat 0 b.positions κ.position_order)
  where
    one : (k : ℕ) (l : Position) → is_flat l ≡ false → at flat b.positions k ≡ l → (c : Bool) → present b.accounts (account_of_key k) ≡ c → c ≡ true
    one k l g e true h = refl
    one k l g e false h = absurd (not_flat l g (sym e ∙ ap (at flat b.positions) (key k) ∙ σ.holders (account_of_key k) (series_of_key k) (omega arith) h))
      where
        key : (k : ℕ) → k ≡ line_key (series_of_key k) (account_of_key k)
        key k = omega arith

    both : (rs : Rows Position) → Each Good rs → Each (λ k l. (0 ≤ k) × (at flat b.positions k ≡ l)) rs → Each (λ k l. present b.accounts (account_of_key k) ≡ true) rs
    both [] x y = tt
    both (r ∷ rs) x y = (one r.0 r.1 x.0.held y.0.1 _ refl, both rs x.1 y.1)

-- ---- admit, list, delta, enter
sound_admit : (b : Book) (a h : ℕ) (p : Pricing) → fits (post b (admit a h) p) ≡ true → Sound b → Sound (post b (admit a h) p)
unfolding post
sound_admit b a h p f σ = grind (arith, at_change, present_change)

delta_small : (k : SeriesKind) (v : ℤ) → delta_range k v ≡ true → nat_abs v ≤ 10000000
delta_small k v e = grind arith

first_small : (k : SeriesKind) (v : ℤ) → first_in k v ≡ true → nat_abs v ≤ 10000000
first_small k v e = grind arith

sound_list : (b : Book) (x : Series) (v : ℤ) (p : Pricing) → ListPassed b x v (post b (list x v) p) → Sound b → Sound (post b (list x v) p)
unfolding post
sound_list b x v p π σ =
    let g : Terms → Terms = λ _. record { value = v; state = Trading } in
    let m : nat_abs v ≤ 10000000 = first_small (series_kind x) v π.first in
    let o : (s : ℕ) → Small (at unlisted (change unlisted g (key_of x) b.series) s) = small_change g (key_of x) b.series (λ _. (m, m)) (small b σ) in
    record {
      cash = σ.cash;
      exchange = σ.exchange;
      counts = σ.counts;
      values = λ s. (o s).0;
      finals = λ s. (o s).1;
      holders = σ.holders;
      listed = λ a s l q. σ.listed a s l (present_change unlisted g (key_of x) s b.series q);
      ended = λ a s l q. σ.ended a s l (done_from g (key_of x) s b.series q (λ _ d. absurd (false≢true d)));
      months = months_change g (key_of x) b.series (rw (key_month x π.range) (month (is_future (series_kind x)) refl π.month)) σ.months;
      room = π.room;
    }
  where
    month : (c : Bool) → is_future (series_kind x) ≡ c → (c || present b.series (future_key x.month)) ≡ true
        → present (change unlisted (λ _. record { value = v; state = Trading }) (key_of x) b.series) (future_key x.month) ≡ true
    month true e h = rw (sym (key_future x π.range e)) (present_own unlisted (λ _. record { value = v; state = Trading }) (key_of x) b.series)
    month false e h = present_keep unlisted (λ _. record { value = v; state = Trading }) (key_of x) (future_key x.month) b.series h

-- ---- the terms of a listed series change
sound_terms : (b : Book) (g : Terms → Terms) (n : ℕ) → (Small (terms_at b n) → Small (g (terms_at b n))) → (is_done (g (terms_at b n)).state ≡ true → is_done (state_at b n) ≡ true)
    → present b.series n ≡ true → Sound b → Sound (book b b.accounts (change unlisted g n b.series) b.positions b.exchange)
sound_terms b g n h i t σ =
    let o : (s : ℕ) → Small (at unlisted (change unlisted g n b.series) s) = small_change g n b.series h (small b σ) in
    record {
      cash = σ.cash;
      exchange = σ.exchange;
      counts = σ.counts;
      values = λ s. (o s).0;
      finals = λ s. (o s).1;
      holders = σ.holders;
      listed = λ a s l q. σ.listed a s l (present_change unlisted g n s b.series q);
      ended = λ a s l q. σ.ended a s l (done_from g n s b.series q (λ e d. rw (eqb-true s n e) (i d)));
      months = months_there g n b.series t σ.months;
      room = fits_less b (book b b.accounts (change unlisted g n b.series) b.positions b.exchange) refl (omega arith) (omega (arith, length-change unlisted g n b.series t)) (omega arith) σ.room;
    }

sound_valued : (b : Book) (n : ℕ) (v : ℤ) → nat_abs v ≤ 10000000 → present b.series n ≡ true → Sound b → Sound (book b b.accounts (change unlisted (valued v) n b.series) b.positions b.exchange)
sound_valued b n v m t σ = sound_terms b (valued v) n (small_valued v (terms_at b n) m) (λ d. d) t σ

sound_delta : (b : Book) (x : Series) (d : ℤ) (p : Pricing) → DeltaPassed b x d → Sound b → Sound (post b (delta x d) p)
unfolding post
sound_delta b x d p π σ = sound_valued b (key_of x) d (delta_small (series_kind x) d π.small) π.there σ

sound_enter : (b : Book) (m f x : ℕ) (p : Pricing) → EnterPassed b m x → Sound b → Sound (post b (enter m f x) p)
unfolding post
sound_enter b m f x p π σ = sound_terms b (stated (Fixed x)) (future_key m) (λ y. (y.0, π.price)) (λ d. absurd (false≢true d)) π.there σ

-- ---- close
closed_in : (k : ℕ) (l : Position) → closable k l ≡ true → in_range l ≡ true → in_range (closed k l) ≡ true
closed_in k l e h = grind (arith, common_steps)

sound_close : (b : Book) (j : Journal) (x : Series) (c k : ℕ) (p : Pricing) → ClosePassed b x c k → Kept b j → Sound b → Sound (post b (close x c k) p)
unfolding post
sound_close b j x c k p π κ σ = grind (arith, common_steps, at_line, closed_in, length-revise)

-- ---- trade
quiet_pay : (a c : ℕ) (x : ℤ) (cs : Rows Account) → eqb a c ≡ false → (at nobody (pay c x cs) a).cash ≡ (at nobody cs a).cash
quiet_pay a c x cs e = cash_pay a c x cs ∙ rw e (omega (arith, ints))

sound_trade : (b : Book) (j : Journal) (t : Trade) (p : Pricing) → Kept b j → Kept (post b (trade t) p) (on (trade t) p j) → TradePassed b t (post b (trade t) p) → Sound b → Sound (post b (trade t) p)
unfolding post
sound_trade b j t p κ κ' π σ = record {
  cash = λ a l. purse a l (eqb a t.buyer) (eqb a t.seller) refl refl;
  exchange = π.exchange;
  counts = λ a s l. counted a s l (eqb s n) (eqb a t.buyer) (eqb a t.seller) refl refl refl;
  values = σ.values;
  finals = σ.finals;
  holders = λ a s l q.
      let h : present b.accounts a ≡ false = present_pay t.buyer a _ b.accounts (present_pay t.seller a _ _ q) in
      apart a s l (other a t.buyer h π.buyer_there) (other a t.seller h π.seller_there) ∙ σ.holders a s l h;
  listed = λ a s l q. κ'.counts a s l ∙ κ'.absent a s l q;
  ended = λ a s l q. elsewhere a s l (ne_eqb s n (λ e. true≢false (sym q ∙ ap (λ (i : ℕ). is_done (state_at b i)) e ∙ π.live))) ∙ σ.ended a s l q;
  months = σ.months;
  room = π.room;
}
  where
    n : ℕ
    n = key_of t.series

    other : (a c : ℕ) → present b.accounts a ≡ false → present b.accounts c ≡ true → eqb a c ≡ false
    other a c h g = ne_eqb a c (λ e. true≢false (sym g ∙ ap (present b.accounts) (sym e) ∙ h))

    elsewhere : (a s : ℕ) → a < 65536 → eqb s n ≡ false → at flat (post b (trade t) p).positions (line_key s a) ≡ at flat b.positions (line_key s a)
    elsewhere a s l e = κ'.counts a s l ∙ rw e (sym (κ.counts a s l))

    apart : (a s : ℕ) → a < 65536 → eqb a t.buyer ≡ false → eqb a t.seller ≡ false → at flat (post b (trade t) p).positions (line_key s a) ≡ at flat b.positions (line_key s a)
    apart a s l e f = κ'.counts a s l ∙ rw (e, f) (same (eqb s n) (position_in a s j) ∙ sym (κ.counts a s l))
      where
        same : (c : Bool) (y : Position) → cond c y y ≡ y
        same true y = refl
        same false y = refl

    line_ok : (a : ℕ) → holder_in n (post b (trade t) p) a ≡ true → in_range (at flat (post b (trade t) p).positions (line_key n a)) ≡ true
    line_ok a h = (and_parts (in_range (at flat (post b (trade t) p).positions (line_key n a))) (balance_in (cash_at (post b (trade t) p) a)) h).0

    purse_ok : (a : ℕ) → holder_in n (post b (trade t) p) a ≡ true → balance_in (cash_at (post b (trade t) p) a) ≡ true
    purse_ok a h = (and_parts (in_range (at flat (post b (trade t) p).positions (line_key n a))) (balance_in (cash_at (post b (trade t) p) a)) h).1

    counted : (a s : ℕ) → a < 65536 → (x y z : Bool) → eqb s n ≡ x → eqb a t.buyer ≡ y → eqb a t.seller ≡ z → in_range (at flat (post b (trade t) p).positions (line_key s a)) ≡ true
    counted a s l true true z e f g = rw (eqb-true s n e, eqb-true a t.buyer f) (line_ok t.buyer π.buyer_holds)
    counted a s l true false true e f g = rw (eqb-true s n e, eqb-true a t.seller g) (line_ok t.seller π.seller_holds)
    counted a s l true false false e f g = subst (λ (y : Position). in_range y ≡ true) (sym (apart a s l f g)) (σ.counts a s l)
    counted a s l false y z e f g = subst (λ (y : Position). in_range y ≡ true) (sym (elsewhere a s l e)) (σ.counts a s l)

    purse : (a : ℕ) → a < 65536 → (y z : Bool) → eqb a t.buyer ≡ y → eqb a t.seller ≡ z → balance_in (cash_at (post b (trade t) p) a) ≡ true
    purse a l true z f g = rw (eqb-true a t.buyer f) (purse_ok t.buyer π.buyer_holds)
    purse a l false true f g = rw (eqb-true a t.seller g) (purse_ok t.seller π.seller_holds)
    purse a l false false f g =
        subst (λ (y : ℤ). balance_in y ≡ true)
        (sym (quiet_pay a t.seller _ _ g ∙ quiet_pay a t.buyer _ b.accounts f)) (σ.cash a l)

-- ---- payments to each line, and ends
sound_paid : (b : Book) (j : Journal) (s : ℕ) (f : ℕ → Position → ℤ) (x : ℤ) → Kept b j → Sound b
    → ((a : ℕ) → a < 65536 → balance_in (at nobody (pay_each f (in_series s b.positions) b.accounts) a).cash ≡ true) → balance_in x ≡ true
    → Sound (book b (pay_each f (in_series s b.positions) b.accounts) b.series b.positions x)
sound_paid b j s f x κ σ h g = grind (arith, each_kept, length-pay_each, owned, present_pay_each)

sound_end : (b : Book) (n : ℕ) → Rising 0 b.positions → present b.series n ≡ true → Sound b → Sound (post_end b n)
sound_end b n o t σ = grind (arith, at_outside, at_terms, length-change, length-outside, months_there, present_change)

sound_exercise : (b : Book) (j : Journal) (x : Series) (level : ℕ) (p : Pricing) → Kept b j → Kept (post_exercise b x p) (on (exercise x level) p j) → lapses_at x level ≡ false
    → ExercisePassed b x (post_exercise b x p) → Sound b → Sound (post_exercise b x p)
sound_exercise b j x level p κ κ' e π σ =
    let o : (s : ℕ) → Small (at unlisted (change unlisted (stated Done) n b.series) s) = small_change (stated Done) n b.series (λ y. (y.0, y.0)) (small b σ) in
    record {
      cash = cleared_cash b j n m gets (post_exercise b x p) κ σ gets_none refl π.paid;
      exchange = π.exchange;
      counts = λ a s l. counted a s l (eqb s n) (eqb s m) refl refl;
      values = λ s. (o s).0;
      finals = λ s. (o s).1;
      holders = λ a s l q. line a s l ∙ bare a s l (eqb s n) (eqb s m) (before a q);
      listed = λ a s l q. κ'.counts a s l ∙ κ'.absent a s l q;
      ended = λ a s l q. line a s l ∙ over a s l (eqb s n) (eqb s m) refl refl (subst (λ (t : Terms). is_done t.state ≡ true) (at_terms (stated Done) n s b.series) q);
      months = months_there (stated Done) n b.series π.there σ.months;
      room = π.room;
    }
  where
    n : ℕ
    n = key_of x

    m : ℕ
    m = future_key x.month

    P : ℕ → ℕ → Position
    P a s = position_in a s j

    after_line : ℕ → ℕ → Bool → Bool → Position
    after_line a s y z = cond y flat (cond z (assigned (kind_in j a) (turned (series_kind x) (P a n).fulls) (P a s)) (P a s))

    line : (a s : ℕ) → a < 65536 → at flat (post_exercise b x p).positions (line_key s a) ≡ after_line a s (eqb s n) (eqb s m)
    line a s l = κ'.counts a s l ∙ rw e

    gets : ℕ → Position → ℤ
    gets c l = turned (series_kind x) (amount (family_in b) (units l) (value_at b m -ℤ pos (100 * x.strike))) -ℤ bought_fees p c (kind_at b c) (series_kind x) l

    before : (a : ℕ) → present (post_exercise b x p).accounts a ≡ false → present b.accounts a ≡ false
    before a q = present_pay_each gets a (in_series n b.positions) b.accounts q

    gets_none : (a : ℕ) → gets a flat ≡ pos 0
    gets_none a = omega (arith, ints, bought_fees_none p a (kind_at b a) (series_kind x), ap (turned (series_kind x)) (zero_amount (family_in b) (value_at b m -ℤ pos (100 * x.strike))), turned_zero (series_kind x))

    bare : (a s : ℕ) → a < 65536 → (y z : Bool) → present b.accounts a ≡ false → after_line a s y z ≡ flat
    bare a s l true z h = refl
    bare a s l false true h =
        rw (sym (κ.counts a s l) ∙ σ.holders a s l h, sym (κ.counts a n l) ∙ σ.holders a n l h)
        (ap (λ (i : ℤ). assigned (kind_in j a) i flat) (turned_zero (series_kind x)) ∙ assigned_none (kind_in j a) flat)
    bare a s l false false h = sym (κ.counts a s l) ∙ σ.holders a s l h

    counted : (a s : ℕ) → a < 65536 → (y z : Bool) → eqb s n ≡ y → eqb s m ≡ z → in_range (at flat (post_exercise b x p).positions (line_key s a)) ≡ true
    counted a s l true z h i = subst (λ (q : Position). in_range q ≡ true) (sym (line a s l ∙ ap (λ (c : Bool). after_line a s c (eqb s m)) h)) refl
    counted a s l false false h i =
        let q : at flat (post_exercise b x p).positions (line_key s a) ≡ at flat b.positions (line_key s a)
        = line a s l ∙ ap (λ (c : Bool). after_line a s c (eqb s m)) h ∙ ap (after_line a s false) i ∙ sym (κ.counts a s l) in
        subst (λ (y : Position). in_range y ≡ true) (sym q) (σ.counts a s l)
    counted a s l false true h i = here (is_flat (at flat b.positions (line_key n a))) refl
      where
        idle : P a n ≡ flat → after_line a s false true ≡ P a s
        idle e = rw e (ap (λ (i : ℤ). assigned (kind_in j a) i (P a s)) (turned_zero (series_kind x)) ∙ assigned_none (kind_in j a) (P a s))

        here : (c : Bool) → is_flat (at flat b.positions (line_key n a)) ≡ c → in_range (at flat (post_exercise b x p).positions (line_key s a)) ≡ true
        here false q = rw (eqb-true s m i) (and_parts (in_range (at flat (post_exercise b x p).positions (line_key m a))) (balance_in (cash_at (post_exercise b x p) a)) (cleared b n m (post_exercise b x p) π.paid a l q)).0
        here true q =
            let e : at flat (post_exercise b x p).positions (line_key s a) ≡ at flat b.positions (line_key s a)
            = line a s l ∙ ap (λ (c : Bool). after_line a s c (eqb s m)) h ∙ ap (after_line a s false) i ∙ idle (sym (κ.counts a n l) ∙ flat_is _ q) ∙ sym (κ.counts a s l) in
            subst (λ (y : Position). in_range y ≡ true) (sym e) (σ.counts a s l)

    over : (a s : ℕ) → a < 65536 → (y z : Bool) → eqb s n ≡ y → eqb s m ≡ z → is_done (cond y (stated Done (terms_at b n)) (terms_at b s)).state ≡ true → after_line a s y z ≡ flat
    over a s l true z h i q = refl
    over a s l false true h i q = absurd (true≢false (sym q ∙ ap (λ (k : ℕ). is_done (state_at b k)) (eqb-true s m i) ∙ π.month_open))
    over a s l false false h i q = sym (κ.counts a s l) ∙ σ.ended a s l q

-- ---- marks and settlements
sound_mark : (b : Book) (j : Journal) (s : ℕ) (v : ℤ) → Kept b j → nat_abs v ≤ 10000000 → present b.series s ≡ true
    → ((a : ℕ) → a < 65536 → balance_in (cash_at (post_mark b s v) a) ≡ true) → Sound b → Sound (post_mark b s v)
sound_mark b j s v κ m t h σ =
    sound_valued (book b (pay_each (λ _ l. amount (family_in b) (units l) (v -ℤ value_at b s)) (in_series s b.positions) b.accounts) b.series b.positions b.exchange) s v m t
    (sound_paid b j s (λ _ l. amount (family_in b) (units l) (v -ℤ value_at b s)) b.exchange κ σ h σ.exchange)

marked : (b : Book) (j : Journal) (m x : ℕ) (p : Pricing) → Kept b j → MarkPassed b m x (post b (mark m x) p) → Sound b → Sound (post b (mark m x) p)
unfolding post
marked b j m x p κ π σ =
    sound_mark b j (future_key m) (pos x) κ π.price π.there
    (cleared_cash b j (future_key m) (future_key m) (λ _ l. amount (family_in b) (units l) (pos x -ℤ value_at b (future_key m))) (post_mark b (future_key m) (pos x)) κ σ (λ _. zero_amount (family_in b) _) refl π.paid) σ

sound_settle : (b : Book) (j : Journal) (x : Series) (p : Pricing) → Kept b j → SettlePassed b x (post b (settle x) p) → Sound b → Sound (post b (settle x) p)
unfolding post
sound_settle b j x p κ π σ = ways (is_future (series_kind x)) π.paid π.exchange
  where
    gets_none : (a : ℕ) → amount (family_in b) (units flat) (pos (payoff_at b x)) -ℤ settle_fees b p x (payoff_at b x) a flat ≡ pos 0
    gets_none a = omega (arith, ints, zero_amount (family_in b) (pos (payoff_at b x)), free (ltb 0 (payoff_at b x)))
      where
        free : (c : Bool) → cond c (bought_fees p a (kind_at b a) (series_kind x) flat) (pos 0) ≡ pos 0
        free true = bought_fees_none p a (kind_at b a) (series_kind x)
        free false = refl

    ways : (c : Bool) → overdrawn b (key_of x) (key_of x) (cond c (post_final b (key_of x)) (post_cash b x p)) ≡ None → balance_in (cond c (post_final b (key_of x)) (post_cash b x p)).exchange ≡ true
        → Sound (cond c (post_final b (key_of x)) (post_cash b x p))
    ways true v g =
        sound_end (post_mark b (key_of x) (pos (final_of (terms_at b (key_of x))))) (key_of x) κ.position_order (present_keep unlisted (valued (pos (final_of (terms_at b (key_of x))))) (key_of x) (key_of x) b.series π.there)
        (sound_mark b j (key_of x) (pos (final_of (terms_at b (key_of x)))) κ (σ.finals (key_of x)) π.there
        (cleared_cash b j (key_of x) (key_of x) (λ _ l. amount (family_in b) (units l) (pos (final_of (terms_at b (key_of x))) -ℤ value_at b (key_of x))) (post_final b (key_of x)) κ σ (λ _. zero_amount (family_in b) _) refl v) σ)
    ways false v g =
        let f : ℕ → Position → ℤ = λ a l. amount (family_in b) (units l) (pos (payoff_at b x)) -ℤ settle_fees b p x (payoff_at b x) a l in
        sound_end (book b (pay_each f (in_series (key_of x) b.positions) b.accounts) b.series b.positions (post_cash b x p).exchange) (key_of x) κ.position_order π.there
        (sound_paid b j (key_of x) f (post_cash b x p).exchange κ σ (cleared_cash b j (key_of x) (key_of x) f (post_cash b x p) κ σ gets_none refl v) g)

sound_exercises : (b : Book) (j : Journal) (x : Series) (level : ℕ) (p : Pricing) → Kept b j → Kept (post b (exercise x level) p) (on (exercise x level) p j)
    → ExercisePassed b x (post b (exercise x level) p) → Sound b → Sound (post b (exercise x level) p)
unfolding post
sound_exercises b j x level p κ κ' π σ = grind (arith, sound_end, sound_exercise)

-- ---- every call
pub sound_call : (b : Book) (j : Journal) (c : Call) (p : Pricing) → Passed b c (post b c p) → Kept b j → Sound b → Sound (post b c p)
sound_call b j (admit a h) p π κ σ = sound_admit b a h p π.room σ
sound_call b j (list x v) p π κ σ = sound_list b x v p π σ
sound_call b j (trade t) p π κ σ = sound_trade b j t p κ (by_call b j (trade t) p π κ) π σ
sound_call b j (close x a k) p π κ σ = sound_close b j x a k p π κ σ
sound_call b j (mark m x) p π κ σ = marked b j m x p κ π σ
sound_call b j (delta x d) p π κ σ = sound_delta b x d p π σ
sound_call b j (enter m f x) p π κ σ = sound_enter b m f x p π σ
sound_call b j (exercise x level) p π κ σ = sound_exercises b j x level p κ (by_call b j (exercise x level) p π κ) π σ
sound_call b j (settle x) p π κ σ = sound_settle b j x p κ π σ
