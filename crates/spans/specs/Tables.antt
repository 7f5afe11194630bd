-- The table of two lent lists, in the paper's terms (01, "Rows, times, settings").
use Rattle.std.specs.Prelude.{◌≡◌, List, ℕ, ℤ, length}
use Rattle.paper.specs.Spans as paper
use Rattle.spans.specs.declared.table.Table.{Table}

-- The paper's table.
abbrev pub table_of : Table → paper.Table
table_of t = paper.table t.starts.now t.ends.now

-- How many rows it has.
abbrev pub rows_in : Table → ℕ
rows_in t = length t.starts.now

-- It is the table of these two lists.
abbrev pub Holds : Table → List ℤ → List ℤ → Type 0
Holds t starts ends = (t.starts.now ≡ starts) × (t.ends.now ≡ ends)
