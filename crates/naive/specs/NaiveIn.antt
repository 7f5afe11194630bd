-- What the checks of the naive splitter have shown (01, "Refusal numbers"): 2, 5 and 13 are not due.
use Rattle.std.specs.Prelude.{◌≡◌, ℕ, ◌≤◌, ◌<◌}

-- n rows in N folds, none of them empty; fold s; a list of n places.
pub record NaiveIn (n N s room : ℕ) : Type 0 where
  pub two : 2 ≤ N
  pub most : N ≤ n
  pub below : s < N
  pub fits : room ≡ n
