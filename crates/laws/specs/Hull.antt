-- Hulls: a row that misses the hull of some test rows, from their earliest start to their latest end, meets none of them.
-- That settles a row without a look at each test row, in any table, in order or not: proofs/HullMisses.
use Rattle.std.specs.Prelude.{◌&&◌, ℕ}
use Rattle.lists.specs.Base.{any}
use Rattle.paper.specs.declared.span.Span.{Span}
use Rattle.paper.specs.Spans.{Table, overlaps}
use Rattle.paper.specs.Folds.{Rows}
use Rattle.paper.specs.Blocks.{begins, past, latest}
use Rattle.paper.proofs.Times.{earliest}

-- The hull of the rows b up to e.
abbrev pub hull : Table → ℕ → ℕ → Span
hull T b e = record { start = earliest T b e; end = latest T b e }

-- Row i overlaps some block's hull.
abbrev pub meets_hull : Table → Rows → Rows
meets_hull T t i = any (λ b. begins t b && overlaps T (T.span i) (hull T b (past T.rows t b))) T.rows
