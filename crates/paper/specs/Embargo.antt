-- The embargo after a block (01, "Purge, embargo, marks"). How many rows it covers, its width, is defined in Width.
use Rattle.std.specs.Prelude.{◌&&◌, not, ℕ, ◌+◌, ◌-◌, ℤ}
use Rattle.lists.specs.Base.{any, first_from}
use Rattle.paper.specs.Spans.{Table, reaches}
use Rattle.paper.specs.Folds.{Rows, within}
use Rattle.paper.specs.Blocks.{begins, past, latest}

-- Row i is stepped over: it starts no later than the block's latest end e.
abbrev pub stepped : Table → ℤ → Rows
stepped T e i = reaches (T.span i).start e

-- From the end of the block b up to e, the first row that is not stepped over: there its embargo begins.
abbrev pub embargo_from : Table → ℕ → ℕ → ℕ
embargo_from T b e = first_from (λ i. not (stepped T (latest T b e) i)) e (T.rows - e)

-- Row i is one of the width rows, by index, that the embargo of some block covers. The cut at n is that rows end there.
abbrev pub embargoed : Table → Rows → ℕ → Rows
embargoed T t width i =
    any (λ b. begins t b
    && within (embargo_from T b (past T.rows t b)) (embargo_from T b (past T.rows t b) + width) i)
    T.rows
