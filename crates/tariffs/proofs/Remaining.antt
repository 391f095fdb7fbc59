-- What accounts have left once an entry is lowered, replaced or added.
use Rattle.std.proofs.Common.{◌≡◌, ℕ, ◌+◌, ◌<◌, ◌≤◌, Bool, false, not, cond, eqb, List, [], ◌∷◌, ◌++◌, length, get_or, set, Some, None, Option, sym, refl, ap, ◌∙◌, subst, inl, inr, add-zero, arith}
use Rattle.std.specs.List.{position_or_len}
use Rattle.std.proofs.lemmas.Bool.{cases_Bool, cases_eq, cases_lt, eq-eqb, ne_eqb, eqb-true, eqb-false, lt-ltb, le-ltb, cond-true, cond-false}
use Rattle.std.proofs.lemmas.List.{length-set, get_or-set_same, get_or-set_other, set_past, length-append, get_or_append_left, get_or_past}
use Rattle.std.proofs.lemmas.List.Folds.{position_or_len-set, position_or_len_push}
use Rattle.std.proofs.lemmas.List.Sums.{prefix_len-le-length}
use Rattle.std.proofs.Math.Seq.{get_or-append_seam}
use Rattle.std.proofs.lemmas.List.Quantifiers.{position-Some}
use Rattle.tariffs.specs.declared.entries.Entry.{Entry}
use Rattle.tariffs.specs.declared.entries.Entries.{Entries}
use Rattle.tariffs.specs.Entries.{entry, place_in, left_at, left, lowered, lowered_at, placed_in, spent}
use Rattle.tariffs.specs.Allowed.{TakesFromOne}

-- whether an entry is the account's
abbrev is_of : ℕ → Entry → Bool
is_of a e = eqb e.account a

-- an account's place has the account
place_has : (es : List Entry) (a i : ℕ) → place_in es a ≡ Some i → (get_or es i (entry 0 0)).account ≡ a
place_has es a i p = eqb-true _ _ (position-Some (is_of a) es i (entry 0 0) p).1

-- no account moves where an entry is put into the place of one of its own account
same_place : (es : List Entry) (i : ℕ) (x : Entry) (b : ℕ) → x.account ≡ (get_or es i (entry 0 0)).account → place_in (set es i x) b ≡ place_in es b
same_place es i x b e =
    let q = position_or_len-set (is_of b) es i x (entry 0 0) (ap (λ a. eqb a b) e) in
    let n = length-set es i x in
    cc

same_places : (es : List Entry) (p : Option ℕ) (n b : ℕ) → place_in (lowered_at es p n) b ≡ place_in es b
same_places es None n b = refl
same_places es (Some i) n b = same_place es i (lowered (get_or es i (entry 0 0)) n) b refl

-- a place that is not lowered keeps what it has
kept : (es : List Entry) (p q : Option ℕ) (n : ℕ) → ((i : ℕ) → p ≡ Some i → q ≡ Some i → ⊥) → left_at (lowered_at es p n) q ≡ left_at es q
kept es None q n other = refl
kept es (Some i) None n other = refl
kept es (Some i) (Some j) n other = ap (λ e. e.left) (get_or-set_other es i j _ _ (λ e. other i refl (ap Some e)))

-- no place has more after
falls : (es : List Entry) (p q : Option ℕ) (n : ℕ) → left_at (lowered_at es p n) q ≤ left_at es q
falls es None q n = omega arith
falls es (Some i) None n = omega arith
falls es (Some i) (Some j) n =
    let low = lowered (get_or es i (entry 0 0)) n in
    elim (cases_eq j i) [
      | inl e ↦
          elim (cases_lt i (length es)) [
            | inl h ↦ subst (λ k. (get_or (set es i low) k (entry 0 0)).left ≤ (get_or es k (entry 0 0)).left) (sym e) (omega (arith, ap (λ x. x.left) (get_or-set_same es i low (entry 0 0) h)))
            | inr h ↦ omega (arith, ap (λ xs. (get_or xs j (entry 0 0)).left) (set_past es i low h))
          ]
      | inr ne ↦ omega (arith, ap (λ x. x.left) (get_or-set_other es i j low (entry 0 0) ne))
    ]

spent_one : (t : Entries) (a n : ℕ) → TakesFromOne t a (spent t a n)
spent_one t a n =
    let es = t.list.items in
    let p = place_in es a in
    let at : (b : ℕ) → left (spent t a n) b ≡ left_at (lowered_at es p n) (place_in es b) = λ b. ap (left_at (lowered_at es p n)) (same_places es p n b) in
    record {
      no_other = λ b other. at b ∙ kept es p (place_in es b) n (λ i x y. other (sym (place_has es a i x) ∙ place_has es b i y));
      never_rises = λ b. omega (arith, at b, falls es p (place_in es b) n);
    }

pub takes_one : (t n : Entries) (a count : ℕ) → n ≡ spent t a count → TakesFromOne t a n
takes_one t n a count e = subst (TakesFromOne t a) (sym e) (spent_one t a count)

-- what accounts have left by the list of entries
abbrev left_in : List Entry → ℕ → ℕ
left_in es b = left_at es (place_in es b)

-- an entry in a place of its own account
left_replaced : (es : List Entry) (i a n b : ℕ) → place_in es a ≡ Some i → left_in (set es i (entry a n)) b ≡ cond (eqb a b) n (left_in es b)
left_replaced es i a n b p =
    let x = entry a n in
    let h : i < length es = (position-Some (is_of a) es i (entry 0 0) p).0 in
    ap (left_at (set es i x)) (same_place es i x b (sym (place_has es a i p)))
    ∙ elim (cases_Bool (eqb a b)) [
      | inl t ↦
          let q : place_in es b ≡ Some i = ap (place_in es) (sym (eqb-true a b t)) ∙ p in
          ap (left_at (set es i x)) q ∙ ap (λ e. e.left) (get_or-set_same es i x (entry 0 0) h) ∙ sym (cond-true _ _ _ t)
      | inr f ↦ at_other (place_in es b) (λ e. eqb-false a b f (sym (place_has es a i p) ∙ place_has es b i e)) ∙ sym (cond-false _ _ _ f)
    ]
  where
    at_other : (q : Option ℕ) → (q ≡ Some i → ⊥) → left_at (set es i (entry a n)) q ≡ left_at es q
    at_other None other = refl
    at_other (Some j) other = ap (λ e. e.left) (get_or-set_other es i j _ _ (λ e. other (ap Some e)))

-- the entry where a search from the front stops, if it does
left_at_first : (es : List Entry) (b : ℕ) → left_in es b ≡ (get_or es (position_or_len (is_of b) es) (entry 0 0)).left
left_at_first es b =
    elim (cases_lt (position_or_len (is_of b) es) (length es)) [
      | inl h ↦ ap (left_at es) (cond-true _ _ _ (lt-ltb _ _ h))
      | inr h ↦ ap (left_at es) (cond-false _ _ _ (le-ltb _ _ h)) ∙ ap (λ e. e.left) (sym (get_or_past es _ (entry 0 0) h))
    ]

-- an entry behind the others
left_added : (es : List Entry) (a n b : ℕ) → place_in es a ≡ None → left_in (es ++ entry a n ∷ []) b ≡ cond (eqb a b) n (left_in es b)
left_added es a n b p =
    let all = es ++ entry a n ∷ [] in
    let k = position_or_len (is_of b) es in
    left_at_first all b
    ∙ ap (λ i. (get_or all i (entry 0 0)).left) (position_or_len_push (is_of b) es (entry a n))
    ∙ elim (cases_lt k (length es)) [
      | inl h ↦
          let there : place_in es b ≡ Some k = cond-true _ _ _ (lt-ltb _ _ h) in
          let other : eqb a b ≡ false = ne_eqb a b (λ e. let z : None ≡ Some k = sym p ∙ ap (place_in es) e ∙ there in cc) in
          ap (λ i. (get_or all i (entry 0 0)).left) (cond-false _ _ _ (ne_eqb _ _ (λ (e : k ≡ length es). omega arith)))
          ∙ ap (λ e. e.left) (get_or_append_left es (entry a n ∷ []) (entry 0 0) k h)
          ∙ sym (left_at_first es b)
          ∙ sym (cond-false _ _ _ other)
      | inr h ↦
          let end : k ≡ length es = omega (arith, prefix_len-le-length (λ e. not (is_of b e)) es) in
          let none : left_in es b ≡ 0 = left_at_first es b ∙ ap (λ e. e.left) (get_or_past es k (entry 0 0) h) in
          ap (λ i. (get_or all i (entry 0 0)).left) (cond-true _ _ _ (eq-eqb _ _ end))
          ∙ elim (cases_Bool (eqb a b)) [
            | inl t ↦
                ap (λ i. (get_or all i (entry 0 0)).left) (ap (λ k. length es + k) (cond-true _ _ _ t) ∙ add-zero (length es))
                ∙ ap (λ e. e.left) (get_or-append_seam es (entry a n) [] (entry 0 0))
                ∙ sym (cond-true _ _ _ t)
            | inr f ↦
                ap (λ i. (get_or all i (entry 0 0)).left) (ap (λ k. length es + k) (cond-false _ _ _ f))
                ∙ ap (λ e. e.left) (get_or_past all (length es + 1) (entry 0 0) (omega (arith, length-append es (entry a n ∷ []))))
                ∙ sym none
                ∙ sym (cond-false _ _ _ f)
          ]
    ]

pub left_placed : (es : List Entry) (a n b : ℕ) (p : Option ℕ) → place_in es a ≡ p → left_in (placed_in es p (entry a n)) b ≡ cond (eqb a b) n (left_in es b)
left_placed es a n b None e = left_added es a n b e
left_placed es a n b (Some i) e = left_replaced es i a n b e
