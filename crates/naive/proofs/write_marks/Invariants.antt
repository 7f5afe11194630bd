-- The list is filled row by row.
use mathlib.Core.Path.{◌≡◌}
use lib.ListN.{take}
use Rattle.lists.specs.Base.{tab, bit}
use Rattle.paper.specs.Folds.{within}
use Rattle.naive.proofs.write_marks.Given as goal

abbrev pub invariant-loop-i : goal.invariant-loop-i
invariant-loop-i l = take l.i l.marks ≡ tab (λ m. bit (within l.rows.first l.rows.past m)) l.i
