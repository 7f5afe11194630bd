-- The turns of a search that looks at one number after the other and returns at the first that passes: what is left to
-- search gives the same as the whole search.
use Rattle.std.specs.Prelude.{◌≡◌, Bool, true, false, ℕ, ◌+◌, ◌-◌, ◌≤◌, ◌<◌}
use Rattle.std.proofs.Common.{sym, ◌∙◌, arith}
use Rattle.std.proofs.Math.Nat.{sub-zero}
use Rattle.lists.specs.Base.{first_from, first}
use Rattle.lists.specs.FirstLaws.{first_skip, first_hit, first_end}

-- The search of n numbers stands at i.
pub record Searched (p : ℕ → Bool) (n i : ℕ) : Type 0 where
  pub within : i ≤ n
  pub left : first p n ≡ first_from p i (n - i)

pub search_start : (p : ℕ → Bool) (n : ℕ) → Searched p n 0
search_start p n = record { within = omega arith; left = rw sub-zero }

module _ (p : ℕ → Bool) (n i : ℕ) (w : Searched p n i) where
  pub search_hit : i < n → p i ≡ true → i ≡ first p n
  search_hit h e = sym (w.left ∙ first_hit p n i h e)

  pub search_on : i < n → p i ≡ false → Searched p n (i + 1)
  search_on h e = record { within = omega arith; left = w.left ∙ first_skip p n i h e }

  pub search_end : n ≤ i → i ≡ first p n
  search_end h = sym (w.left ∙ first_end p n i h)
