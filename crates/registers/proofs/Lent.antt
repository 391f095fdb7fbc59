-- A register that lends a content for writing.
use Rattle.std.proofs.Common.{◌≡◌, ℕ, ltb, length, get_or, is_some, IfSome, Some, None, Option, refl, arith, MutBor}
use Rattle.std.specs.List.{slice_get}
use Rattle.std.specs.Option.{option_map}
use Rattle.std.proofs.lemmas.Option.{slice_get_read, slice_get_past}
use Rattle.std.proofs.lemmas.Bool.Decides.{nat_tests}
use Rattle.registers.specs.Rows.{lookup, contents_in}
use Rattle.registers.specs.Held.{contents_of, rows_of}
use Rattle.registers.specs.declared.keyed.Register.{Register}
use Rattle.registers.proofs.Always.{contents_are}

-- what is lent is what a look-up finds
pub lends : {X : Type 0} (r : Register X) (k i : ℕ) (o : Option (MutBor X)) → is_some o ≡ ltb i (length (contents_of r)) → IfSome o (λ x. x.now ≡ get_or (contents_of r) i x.now) → slice_get (contents_in (rows_of r)) i ≡ lookup (rows_of r) k → option_map (λ x. x.now) o ≡ lookup (rows_of r) k
lends {X} r k i (Some x) t e h =
    let a = contents_are r in
    let s = slice_get_read (contents_of r) (length (contents_of r)) i x.now refl in
    grind (arith, nat_tests)
lends {X} r k i None t e h =
    let a = contents_are r in
    let s = slice_get_past (contents_of r) i in
    grind (arith, nat_tests)
