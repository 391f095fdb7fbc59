-- A window of keys, narrowed to a quarter of it by how many of its three inner bounds are less than the key.
use Rattle.std.proofs.Common.{◌≡◌, ℕ, ◌+◌, ◌-◌, ◌*◌, ◌<◌, ◌≤◌, cond, ltb, List, length, get_or, arith}
use Rattle.std.proofs.lemmas.Bool.Decides.{nat_tests}
use Rattle.registers.specs.Keys.{Ascending, Before, After}

-- the place of the key lies from base to base + size
pub record Window (ks : List ℕ) (key base size : ℕ) : Type 0 where
  pub within : base + size ≤ length ks
  pub before : Before ks key base
  pub after : After ks key (base + size)

rises : (ks : List ℕ) → Ascending ks → (i j : ℕ) → i ≤ j → j < length ks → get_or ks i 0 ≤ get_or ks j 0
rises ks a i j h l = grind (arith, a i j)

module _ (ks : List ℕ) (key base size q : ℕ) (asc : Ascending ks) (w : Window ks key base size) (p : 0 < q) (h : 4 * q ≤ size + 1) where
  pub quartered : (x y z : ℕ)
      → x ≡ cond (ltb (get_or ks (base + q - 1) 0) key) 1 0
      → y ≡ cond (ltb (get_or ks (base + q - 1 + q) 0) key) 1 0
      → z ≡ cond (ltb (get_or ks (base + q - 1 + 2 * q) 0) key) 1 0
      → Window ks key (base + q * (x + y + z)) (size - 3 * q)
  quartered x y z ex ey ez =
      let a = base + q - 1 in
      let b = base + q - 1 + q in
      let d = base + q - 1 + 2 * q in
      record {
        within = grind (arith, nat_tests);
        before = λ m l. grind (arith, nat_tests, rises ks asc m a, rises ks asc m b, rises ks asc m d, rises ks asc a b, rises ks asc b d, w.before m);
        after = λ m l k. grind (arith, nat_tests, rises ks asc a m, rises ks asc b m, rises ks asc d m, rises ks asc a b, rises ks asc b d, w.after m);
      }
