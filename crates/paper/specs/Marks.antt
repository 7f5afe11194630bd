-- Purged rows by the two rules, the six marks and their counts (01, "Purge, embargo, marks").
use Rattle.std.specs.Prelude.{Bool, true, false, ◌&&◌, List, ℕ, ◌+◌}
use Rattle.lists.specs.Base.{tab, any, tally}
use Rattle.paper.specs.declared.answers.Counts.{Counts}
use Rattle.paper.specs.Spans.{Table, overlaps}
use Rattle.paper.specs.Folds.{Rows}
use Rattle.paper.specs.Blocks.{begins, past, window}
use Rattle.paper.specs.Embargo.{embargoed}

-- The window rule is `PurgedKFold`'s, the pair rule the engine's.
pub data Rule : Type 0 where
  by_window by_pair : Rule

-- Row i overlaps some test row's span. (A test row overlaps its own: the marks ask only of other rows.)
abbrev pub meets : Table → Rows → Rows
meets T t i = any (λ j. t j && overlaps T (T.span i) (T.span j)) T.rows

-- Row i overlaps some block's window.
abbrev pub meets_window : Table → Rows → Rows
meets_window T t i = any (λ b. begins t b && overlaps T (T.span i) (window T b (past T.rows t b))) T.rows

abbrev pub purged : Rule → Table → Rows → Rows
purged by_window T t i = meets_window T t i
purged by_pair T t i = meets T t i

-- A split: the rows tested, the rows that take no part, and the width of the embargo.
pub record Split : Type 0 where
  pub test : Rows
  pub unused : Rows
  pub width : ℕ

-- The mark of a row that is tested, unused, purged, embargoed: 0 train, 1 test, 2 purged, 3 embargoed, 4 purged and
-- embargoed, 5 unused. A test row is never purged or embargoed.
abbrev pub mark : Bool → Bool → Bool → Bool → ℕ
mark true u p e = 1
mark false true p e = 5
mark false false true true = 4
mark false false true false = 2
mark false false false true = 3
mark false false false false = 0

unfoldable pub mark_of : Rule → Table → Split → ℕ → ℕ
mark_of r T s i = mark (s.test i) (s.unused i) (purged r T s.test i) (embargoed T s.test s.width i)

-- The marks of all rows.
abbrev pub marks_of : Rule → Table → Split → List ℕ
marks_of r T s = tab (mark_of r T s) T.rows

-- Each count is the number of such marks in the list.
abbrev pub counts_of : List ℕ → Counts
counts_of l =
    record {
      train = tally 0 l;
      test = tally 1 l;
      purged = tally 2 l + tally 4 l;
      embargoed = tally 3 l + tally 4 l;
    }

-- What the engine calls `embargo_count`: the number of 3s.
abbrev pub embargo_count : List ℕ → ℕ
embargo_count l = tally 3 l
