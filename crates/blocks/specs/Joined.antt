-- Ranges that touch, joined into blocks.
use Rattle.std.specs.Prelude.{◌≡◌, cond, ℕ, zero, suc, ◌+◌, ◌-◌, ◌≤◌, ◌<◌, eqb}
use Rattle.laws.specs.Ranges.{ranged, Ranges}
use Rattle.blocks.specs.Held.{Blocks}

-- The m blocks from B up to E have the rows of the k ranges from F up to G, and end where these end.
pub record Joined (F G : ℕ → ℕ) (k : ℕ) (B E : ℕ → ℕ) (m n : ℕ) : Type 0 where
  pub blocks : Blocks B E m n
  pub same : (i : ℕ) → ranged F G k i ≡ ranged B E m i
  pub last : (j : ℕ) → j + 1 ≡ k → (0 < m) × (E (m - 1) ≡ G j)

-- That, of whatever n rows they are ranges of. There are no more blocks than ranges.
pub record Joins (F G : ℕ → ℕ) (k : ℕ) (B E : ℕ → ℕ) (m : ℕ) : Type 0 where
  pub few : m ≤ k
  pub joined : (n : ℕ) → Ranges F G k n → Joined F G k B E m n

-- The place, behind or among m blocks, of a range from b on: it goes on with the last block if that ends at b.
abbrev pub place_of : (ℕ → ℕ) → ℕ → ℕ → ℕ
place_of E zero b = 0
place_of E (suc m) b = cond (eqb (E m) b) m (suc m)
