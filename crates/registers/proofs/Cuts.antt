-- A stretch taken out of a list.
use Rattle.std.proofs.Common.{◌≡◌, ℕ, zero, suc, ◌+◌, ◌-◌, ◌≤◌, List, [], ◌∷◌, ◌++◌, length, take, drop, sym, refl, ap, ◌∙◌, ap₂, arith}
use borrow.Rule.Slice.PartMut.{put_mid, post_of}
use Rattle.std.specs.List.{between, zip}
use Rattle.std.proofs.lemmas.List.{append_assoc, drop-drop, length-take-le, take_at}
use Rattle.std.proofs.lemmas.Slice.{between_to_end}
use Rattle.std.proofs.lemmas.List.Edits.{split_between, length-between}
use Rattle.std.proofs.lemmas.Grind.{elements}
use Rattle.registers.specs.Keys.{Ascending}

pub cut_length : {X : Type 0} (xs : List X) (a b : ℕ) → a ≤ b → b ≤ length xs → length (take a xs ++ drop b xs) ≡ length xs - (b - a)
cut_length xs a b h k = grind (arith, elements)

pub cut_is : {X : Type 0} (xs ws : List X) (a b n : ℕ) → a ≤ b → b ≤ length xs → n ≡ length xs → ws ≡ drop (b - a) (between a n xs) ++ take (b - a) (between a n xs)
    → take (n - (b - a)) (put_mid a (n - a) xs ws) ≡ take a xs ++ drop b xs
cut_is xs ws a b n h k e f =
    let rest : between a n xs ≡ drop a xs = between_to_end xs a n (omega arith) in
    let gone = take (b - a) (drop a xs) in
    let post = post_of a (n - a) xs in
    let w : ws ≡ drop b xs ++ gone = f ∙ ap (λ l. drop (b - a) l ++ take (b - a) l) rest ∙ ap (λ l. l ++ gone) (drop-drop (b - a) a xs ∙ ap (λ (m : ℕ). drop m xs) (omega arith)) in
    let all : take a xs ++ (ws ++ post) ≡ (take a xs ++ drop b xs) ++ (gone ++ post) =
    ap (λ l. take a xs ++ (l ++ post)) w ∙ ap (λ l. take a xs ++ l) (append_assoc (drop b xs) gone post) ∙ sym (append_assoc (take a xs) (drop b xs) (gone ++ post)) in
    ap (take (n - (b - a))) all ∙ take_at (take a xs ++ drop b xs) (gone ++ post) (n - (b - a)) (cut_length xs a b h k ∙ omega arith)

pub ascending_cut : (ks : List ℕ) (a b : ℕ) → Ascending ks → a ≤ b → b ≤ length ks → Ascending (take a ks ++ drop b ks)
ascending_cut ks a b asc h k i j l m =
    let n = cut_length ks a b h k in
    grind (arith, elements, asc i j, asc i (b + (j - a)), asc (b + (i - a)) (b + (j - a)))

pub ruleset cuts = (cut_length, ascending_cut)

-- ---- keys beside contents, in parts
zipped_append : {K X : Type 0} (js ks : List K) (ws vs : List X) → length ws ≡ length js → zip (js ++ ks) (ws ++ vs) ≡ zip js ws ++ zip ks vs
zipped_append [] ks [] vs n = refl
zipped_append [] ks (w ∷ ws) vs n = absurd (omega arith)
zipped_append (j ∷ js) ks [] vs n = absurd (omega arith)
zipped_append (j ∷ js) ks (w ∷ ws) vs n = ap (λ r. (j, w) ∷ r) (zipped_append js ks ws vs (omega arith))

zipped_take : {K X : Type 0} (ks : List K) (vs : List X) (a : ℕ) → zip (take a ks) (take a vs) ≡ take a (zip ks vs)
zipped_take ks vs zero = refl
zipped_take [] vs (suc a) = refl
zipped_take (k ∷ ks) [] (suc a) = refl
zipped_take (k ∷ ks) (v ∷ vs) (suc a) = ap (λ r. (k, v) ∷ r) (zipped_take ks vs a)

zipped_drop : {K X : Type 0} (ks : List K) (vs : List X) (b : ℕ) → length vs ≡ length ks → zip (drop b ks) (drop b vs) ≡ drop b (zip ks vs)
zipped_drop ks vs zero n = refl
zipped_drop [] vs (suc b) n = refl
zipped_drop (k ∷ ks) [] (suc b) n = absurd (omega arith)
zipped_drop (k ∷ ks) (v ∷ vs) (suc b) n = zipped_drop ks vs b (omega arith)

pub zipped_cut : {K X : Type 0} (ks : List K) (vs : List X) (a b : ℕ) → length vs ≡ length ks → a ≤ length ks → zip (take a ks ++ drop b ks) (take a vs ++ drop b vs) ≡ take a (zip ks vs) ++ drop b (zip ks vs)
zipped_cut ks vs a b n l =
    zipped_append (take a ks) (drop b ks) (take a vs) (drop b vs) (length-take-le a vs (omega arith) ∙ sym (length-take-le a ks l))
    ∙ ap₂ (λ x y. x ++ y) (zipped_take ks vs a) (zipped_drop ks vs b n)

-- the rows after a stretch of contents was lent and written
pub zipped_mid : {K X : Type 0} (ks : List K) (vs ws : List X) (a b : ℕ) → length vs ≡ length ks → a ≤ b → b ≤ length ks → length ws ≡ b - a
    → zip ks (take a vs ++ (ws ++ drop b vs)) ≡ take a (zip ks vs) ++ (zip (between a b ks) ws ++ drop b (zip ks vs))
zipped_mid {K} {X} ks vs ws a b n h k e =
    ap (λ (l : List K). zip l (take a vs ++ (ws ++ drop b vs))) (split_between ks a b h)
    ∙ zipped_append (take a ks) (between a b ks ++ drop b ks) (take a vs) (ws ++ drop b vs) (length-take-le a vs (omega arith) ∙ sym (length-take-le a ks (omega arith)))
    ∙ ap (λ l. zip (take a ks) (take a vs) ++ l) (zipped_append (between a b ks) (drop b ks) ws (drop b vs) (e ∙ sym (length-between ks a b k)))
    ∙ ap₂ (λ l r. l ++ (zip (between a b ks) ws ++ r)) (zipped_take ks vs a) (zipped_drop ks vs b n)
