-- Keys in order: what an insertion or a removal leaves in order.
use Rattle.std.proofs.Common.{◌≡◌, ℕ, ◌+◌, ◌-◌, ◌<◌, ◌≤◌, List, length, get_or, Ok, Err, ap, ◌∙◌, arith}
use Rattle.std.specs.List.{insert, remove}
use Rattle.std.proofs.lemmas.List.Edits.{length-insert, get_or-insert_below, get_or-insert_at, get_or-insert_above, length-remove, get_or-remove_below, get_or-remove_above}
use Rattle.registers.specs.Keys.{Ascending, Found, Before}

-- one key of the longer list, by its place
above_at : (ks : List ℕ) (i key m : ℕ) → i < m → i ≤ length ks → get_or (insert ks i key) m 0 ≡ get_or ks (m - 1) 0
above_at ks i key m h l =
    let e : m ≡ m - 1 + 1 = omega arith in
    ap (λ n. get_or (insert ks i key) n 0) e ∙ get_or-insert_above ks i key 0 (m - 1) (omega arith) l

pub ascending_inserted : (ks : List ℕ) (i key : ℕ) → Ascending ks → Found ks key (Err i) → Ascending (insert ks i key)
ascending_inserted ks i key a f m n h l =
    grind (arith, length-insert ks i key f.0, get_or-insert_at ks i key 0 f.0, get_or-insert_below ks i key 0 m, get_or-insert_below ks i key 0 n, above_at ks i key m, above_at ks i key n, f.1 m, f.2 (n - 1), a m n, a m (n - 1), a (m - 1) (n - 1))

pub ascending_removed : (ks : List ℕ) (i : ℕ) → Ascending ks → i < length ks → Ascending (remove ks i)
ascending_removed ks i a l m n h k =
    grind (arith, length-remove ks i l, get_or-remove_below ks i 0 m, get_or-remove_below ks i 0 n, get_or-remove_above ks i 0 m, get_or-remove_above ks i 0 n, a m n, a m (n + 1), a (m + 1) (n + 1))

pub before_found : (ks : List ℕ) (key i : ℕ) → Ascending ks → Found ks key (Ok i) → Before ks key i
before_found ks key i a f m h = omega (arith, a m i h f.0, f.1)
