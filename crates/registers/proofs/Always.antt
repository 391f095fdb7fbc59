-- What holds of every register.
use Rattle.std.proofs.Common.{◌≡◌, ℕ, suc, ◌<◌, ◌≤◌, List, [], ◌∷◌, length, get_or, vec_len, sym, ◌∙◌, arith}
use Rattle.std.specs.List.{zip}
use Rattle.std.proofs.lemmas.Slice.Zip.{length-zip, firsts-zip, seconds-zip}
use Rattle.registers.specs.declared.keyed.Register.{Register}
use Rattle.registers.specs.Keys.{Ascending}
use Rattle.registers.specs.Rows.{Rising, keys_in, contents_in}
use Rattle.registers.specs.Held.{keys_of, contents_of, rows_of, room_of}

pub level : {X : Type 0} (r : Register X) → length (contents_of r) ≡ length (keys_of r)
level r = sym r.contents.ok.0 ∙ r.even ∙ r.keys.ok.0

-- as many rows as keys
pub count : {X : Type 0} (r : Register X) → length (rows_of r) ≡ vec_len r.keys
unfolding rows_of
count r = let a = r.keys.ok.0 in let b = level r in omega (arith, length-zip (keys_of r) (contents_of r))

pub count_keys : {X : Type 0} (r : Register X) → length (rows_of r) ≡ length (keys_of r)
count_keys r = count r ∙ r.keys.ok.0

pub within_room : {X : Type 0} (r : Register X) → length (rows_of r) ≤ room_of r
within_room r = let f = r.fits in omega (arith, count r)

pub keys_are : {X : Type 0} (r : Register X) → keys_of r ≡ keys_in (rows_of r)
unfolding rows_of
keys_are r = sym (firsts-zip (keys_of r) (contents_of r) (level r))

pub contents_are : {X : Type 0} (r : Register X) → contents_of r ≡ contents_in (rows_of r)
unfolding rows_of
contents_are r = sym (seconds-zip (keys_of r) (contents_of r) (level r))

zipped_rises : {X : Type 0} (lo : ℕ) (ks : List ℕ) (vs : List X) → Ascending ks → (0 < length ks → lo ≤ get_or ks 0 0) → Rising lo (zip ks vs)
zipped_rises lo [] vs a h = tt
zipped_rises lo (k ∷ ks) [] a h = tt
zipped_rises lo (k ∷ ks) (v ∷ vs) a h =
    let rest = zipped_rises (suc k) ks vs (λ i j l m. a (suc i) (suc j) (omega arith) (omega arith)) (λ g. a 0 1 (omega arith) (omega arith)) in
    grind arith

pub rising : {X : Type 0} (r : Register X) → Rising 0 (rows_of r)
unfolding rows_of
rising r = zipped_rises 0 (keys_of r) (contents_of r) r.ascends (λ g. omega arith)

pub ruleset facts = (count, count_keys, keys_are, contents_are, rising)
