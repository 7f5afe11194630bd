-- The list is filled row by row: up to i it is what `train_flags` makes of the rows below i.
use mathlib.Core.Path.{◌≡◌}
use mathlib.Core.Bool.{not}
use lib.ListN.{take}
use Rattle.lists.specs.Base.{tab, bit}
use Rattle.paper.specs.Spans.{span_of}
use Rattle.train_times.specs.Dropped.{dropped_by_some}
use Rattle.train_times.proofs.write_flags.Given as goal

abbrev pub invariant-loop-i : goal.invariant-loop-i
invariant-loop-i l =
    take l.i l.flags ≡ tab (λ i. bit (not (dropped_by_some l.tests.starts.now l.tests.ends.now (span_of l.table.starts.now l.table.ends.now i)))) l.i
