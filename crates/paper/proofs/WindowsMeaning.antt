-- What a window means (01, "Purge, embargo, marks"): it begins with its block's first row, and its end is reached by exactly
-- what reaches the end of some row of the block.
use mathlib.Core.Path.{◌≡◌, refl}
use mathlib.Core.Bool.{true}
use Prim.Native.Nat.{ℕ, ◌≤◌, ◌<◌}
use lib.IntN.{ℤ}
use Rattle.paper.specs.Spans.{Table, reaches}
use Rattle.paper.specs.Blocks.{window}
use Rattle.paper.proofs.Times.{reaches_later, latest_bound, latest_place}

module _ (T : Table) (b e : ℕ) where
  pub window_start : (window T b e).start ≡ (T.span b).start
  window_start = refl

  pub window_reached :
      (s : ℤ) → b < e → reaches s (window T b e).end ≡ true →
      (j : ℕ) × (b ≤ j) × (j < e) × (reaches s (T.span j).end ≡ true)
  window_reached s h k = let p = latest_place T b e h in (p.0, p.1, p.2, rw p.3 at k)

  pub reaches-window :
      (s : ℤ) (j : ℕ) → b ≤ j → j < e → reaches s (T.span j).end ≡ true → reaches s (window T b e).end ≡ true
  reaches-window s j g h k = reaches_later s (latest_bound T b e j g h) k
