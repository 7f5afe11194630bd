-- What is asked before anything is marked, and what marking leaves behind.
use Rattle.std.specs.Prelude.{◌≡◌, List, ℕ, ◌≤◌, length}
use Rattle.paper.specs.declared.answers.Counts.{Counts}
use Rattle.paper.specs.Marks.{counts_of}
use Rattle.laws.specs.Ranges.{Ranges}
use Rattle.spans.specs.declared.table.Table.{Table}
use Rattle.spans.specs.Tables.{rows_in}
use Rattle.folds.specs.declared.RowRange.{RowRange}
use Rattle.blocks.specs.Held.{firsts, pasts}

-- Ranges of the rows of a table, at most 64, and marks that fit it (5). What 12, 10 and 4 have shown of the table is in its type.
pub record Markable (t : Table) (l : List RowRange) (marks : List ℕ) : Type 0 where
  pub few : length l ≤ 64
  pub ranges : Ranges (firsts l) (pasts l) (length l) (rows_in t)
  pub long : length marks ≡ rows_in t

-- The marks are the list that is due, and the counts are those of that list.
pub record Written (due marks : List ℕ) (counts : Counts) : Type 0 where
  pub marked : marks ≡ due
  pub counted : counts ≡ counts_of due
