-- What the bounds of a fold are, for callers who know that there is such a fold.
use mathlib.Core.Path.{◌≡◌, sym, ◌∙◌}
use Prim.Native.Nat.{ℕ, ◌+◌, ◌≤◌, ◌<◌}
use native.Mathlib.Omega.{arith}
use borrow.Author.Tests.{lt-ltb}
use Rattle.std.specs.Prelude.{Some}
use Rattle.paper.specs.Folds.{even_border}
use Rattle.paper.proofs.FoldsMeaning.{even_border_closed, even_border-le, even_border_size}
use Rattle.folds.specs.declared.RowRange.{RowRange}
use Rattle.folds.specs.Found.{bounds_of}

module _ (n N f : ℕ) (h : f < N) where
  abbrev pub rows : RowRange
  rows = record { first = even_border n N f; past = even_border n N (f + 1) }

  -- There is such a fold.
  pub found : bounds_of n N f ≡ Some rows
  found = rw (lt-ltb f N h)

  pub bounds_rows : (r : RowRange) → bounds_of n N f ≡ Some r → r ≡ rows
  bounds_rows r k = let z : Some r ≡ Some rows = sym k ∙ found in cc

  -- They lie in order within the rows.
  pub bounds_order : even_border n N f ≤ even_border n N (f + 1)
  bounds_order = rw (even_border_size n N f) (omega arith)

  pub bounds_within : even_border n N (f + 1) ≤ n
  bounds_within = rw (even_border_closed n N (f + 1)) (even_border-le n N (f + 1) (omega arith))
