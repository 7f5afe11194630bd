-- A search over the rows: none of those passed is overlapped.
use mathlib.Core.Path.{◌≡◌}
use mathlib.Core.Bool.{false}
use Rattle.lists.specs.Base.{any_from}
use Rattle.spans.specs.Tables.{table_of}
use Rattle.rows.specs.Asked.{meets_at}
use Rattle.rows.proofs.meets_row.Given as goal

abbrev pub invariant-loop-i : goal.invariant-loop-i
invariant-loop-i l = any_from (meets_at (table_of l.table) l.a) l.fn.rows.first l.i ≡ false
