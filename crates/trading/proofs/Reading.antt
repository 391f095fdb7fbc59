-- What a read of a row says of the rows.
use Rattle.std.proofs.Common.{◌≡◌, ℕ, Bool, true, false, cond, is_some, Some, None, Option, unwrap_or, sym, refl, ap, ◌∙◌, arith}
use Rattle.registers.specs.Rows.{Rows, lookup}
use Rattle.ledger.specs.Rows.{at, present}

module _ {V : Type 0} (d : V) (rs : Rows V) (k j : ℕ) where
  pub there : (v : V) → Some v ≡ lookup rs j → j ≡ k → present rs k ≡ true
  there v h e = ap (λ (i : ℕ). is_some (lookup rs i)) (sym e) ∙ ap is_some (sym h)

  pub stands : (v : V) → Some v ≡ lookup rs j → j ≡ k → v ≡ at d rs k
  stands v h e = ap (λ (o : Option V). unwrap_or o d) h ∙ ap (at d rs) e

  pub missing : None ≡ lookup rs j → j ≡ k → present rs k ≡ false
  missing h e = ap (λ (i : ℕ). is_some (lookup rs i)) (sym e) ∙ ap is_some (sym h)

-- ---- a value that is there by a test
pub took : {V : Type 0} (c : Bool) (x y : V) → Some x ≡ cond c (Some y) None → (c ≡ true) × (x ≡ y)
took true x y h = (refl, cc)
took false x y h = absurd (let z : ◌≡◌ {A = ℕ} 0 1 = cc in omega arith)
