-- What the crates above lean on, for rows of any content.
use Rattle.std.specs.Prelude.{◌≡◌, ℕ, ◌+◌, ◌<◌, Bool, false, cond, not, ◌&&◌, List, ◌++◌, length, ℤ, ◌+ℤ◌, Some, None, filter, ◌≢◌, nat_le, nat_lt, slice_index}
use Rattle.std.specs.List.{zip, slice_get}
use Rattle.registers.specs.Rows.{Rows, Rising, keys_in, contents_in, lookup, put, without}
use Rattle.registers.specs.Stretches.{front, stretch, rest, rewritten}
use Rattle.registers.specs.Sums.{total, total_ℤ, share, share_ℤ}

-- A row put in: what is found, that order is kept, and how the count and each sum change.
pub record PutLaws (V : Type 0) : Type 0 where
  pub same : (k : ℕ) (v : V) (rs : Rows V) → lookup (put k v rs) k ≡ Some v
  pub other : (k j : ℕ) (v : V) (rs : Rows V) → (j ≢ k) → lookup (put k v rs) j ≡ lookup rs j
  pub order : (k : ℕ) (v : V) (rs : Rows V) → Rising 0 rs → Rising 0 (put k v rs)
  pub count : (k : ℕ) (v : V) (rs : Rows V) → length (put k v rs) + share (λ _ _. 1) k (lookup rs k) ≡ length rs + 1
  pub sum : (f : ℕ → V → ℕ) (k : ℕ) (v : V) (rs : Rows V) → total f (put k v rs) + share f k (lookup rs k) ≡ total f rs + f k v
  pub sum_ℤ : (f : ℕ → V → ℤ) (k : ℕ) (v : V) (rs : Rows V) → total_ℤ f (put k v rs) +ℤ share_ℤ f k (lookup rs k) ≡ total_ℤ f rs +ℤ f k v

-- A row taken out.
pub record TakeLaws (V : Type 0) : Type 0 where
  pub same : (k : ℕ) (rs : Rows V) → Rising 0 rs → lookup (without k rs) k ≡ None
  pub other : (k j : ℕ) (rs : Rows V) → Rising 0 rs → (j ≢ k) → lookup (without k rs) j ≡ lookup rs j
  pub absent : (k : ℕ) (rs : Rows V) → lookup rs k ≡ None → without k rs ≡ rs
  pub order : (k : ℕ) (rs : Rows V) → Rising 0 rs → Rising 0 (without k rs)
  pub count : (k : ℕ) (rs : Rows V) → length (without k rs) + share (λ _ _. 1) k (lookup rs k) ≡ length rs
  pub sum : (f : ℕ → V → ℕ) (k : ℕ) (rs : Rows V) → total f (without k rs) + share f k (lookup rs k) ≡ total f rs
  pub sum_ℤ : (f : ℕ → V → ℤ) (k : ℕ) (rs : Rows V) → total_ℤ f (without k rs) +ℤ share_ℤ f k (lookup rs k) ≡ total_ℤ f rs

-- A key in order stands once, and a look-up finds each row.
pub record OrderLaws (V : Type 0) : Type 0 where
  pub once : (rs : Rows V) (i j : ℕ) → Rising 0 rs → i < length rs → j < length rs → slice_index (keys_in rs) i ≡ slice_index (keys_in rs) j → i ≡ j
  pub found : (rs : Rows V) (i : ℕ) → Rising 0 rs → i < length rs → lookup rs (slice_index (keys_in rs) i) ≡ slice_get (contents_in rs) i

-- the key lies from a to below b
abbrev pub inside : ℕ → ℕ → ℕ → Bool
inside a b k = nat_le a k && nat_lt k b

-- The three parts are the rows; the stretch is the rows with keys from a to below b, and the others stay without it.
pub record StretchLaws (V : Type 0) : Type 0 where
  pub parts : (a b : ℕ) (rs : Rows V) → front a rs ++ (stretch a b rs ++ rest a b rs) ≡ rs
  pub within : (a b : ℕ) (rs : Rows V) → Rising 0 rs → stretch a b rs ≡ filter (λ r. inside a b r.0) rs
  pub others : (a b : ℕ) (rs : Rows V) → Rising 0 rs → front a rs ++ rest a b rs ≡ filter (λ r. not (inside a b r.0)) rs
  pub looked : (a b j : ℕ) (rs : Rows V) → Rising 0 rs → lookup (front a rs ++ rest a b rs) j ≡ cond (inside a b j) None (lookup rs j)
  pub order : (a b : ℕ) (rs : Rows V) → Rising 0 rs → Rising 0 (front a rs ++ rest a b rs)
  pub count : (a b : ℕ) (rs : Rows V) → length (front a rs ++ rest a b rs) + length (stretch a b rs) ≡ length rs
  pub sum : (f : ℕ → V → ℕ) (a b : ℕ) (rs : Rows V) → total f (front a rs ++ rest a b rs) + total f (stretch a b rs) ≡ total f rs
  pub sum_ℤ : (f : ℕ → V → ℤ) (a b : ℕ) (rs : Rows V) → total_ℤ f (front a rs ++ rest a b rs) +ℤ total_ℤ f (stretch a b rs) ≡ total_ℤ f rs

-- Other contents in a stretch, as many: the keys stay, and so does every other row.
pub record RewriteLaws (V : Type 0) : Type 0 where
  pub keys : (a b : ℕ) (ws : List V) (rs : Rows V) → length ws ≡ length (stretch a b rs) → keys_in (rewritten a b ws rs) ≡ keys_in rs
  pub looked : (a b j : ℕ) (ws : List V) (rs : Rows V) → Rising 0 rs → length ws ≡ length (stretch a b rs) → inside a b j ≡ false → lookup (rewritten a b ws rs) j ≡ lookup rs j
  pub sum : (f : ℕ → V → ℕ) (a b : ℕ) (ws : List V) (rs : Rows V) → total f (rewritten a b ws rs) + total f (stretch a b rs) ≡ total f rs + total f (zip (keys_in (stretch a b rs)) ws)
  pub sum_ℤ : (f : ℕ → V → ℤ) (a b : ℕ) (ws : List V) (rs : Rows V) → total_ℤ f (rewritten a b ws rs) +ℤ total_ℤ f (stretch a b rs) ≡ total_ℤ f rs +ℤ total_ℤ f (zip (keys_in (stretch a b rs)) ws)
