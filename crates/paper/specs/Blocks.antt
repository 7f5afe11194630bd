-- Blocks and windows (01, "Purge, embargo, marks"). A block is a maximal run of consecutive test rows, so adjacent test
-- folds make one. It is known by its first row b: a test row whose neighbour before it is none. What belongs to a block is
-- said of its rows b up to e.
use Rattle.std.specs.Prelude.{◌&&◌, not, ℕ, zero, suc, ◌-◌, ℤ}
use Rattle.lists.specs.Base.{first_from, over}
use Rattle.paper.specs.declared.span.Span.{Span}
use Rattle.paper.specs.Spans.{Table, later}
use Rattle.paper.specs.Folds.{Rows}

-- Row b begins a block of the test rows t.
unfoldable pub begins : Rows → Rows
begins t zero = t zero
begins t (suc b) = t (suc b) && not (t b)

-- The row past the block that begins at b: the first from b on, of n rows, that is not tested.
abbrev pub past : ℕ → Rows → ℕ → ℕ
past n t b = first_from (λ i. not (t i)) b (n - b)

-- The latest end of the rows b up to e.
abbrev pub latest : Table → ℕ → ℕ → ℤ
latest T b e = over later (λ i. (T.span i).end) b e

-- The window of a block: from its first row's start to the latest end in it.
abbrev pub window : Table → ℕ → ℕ → Span
window T b e = record { start = (T.span b).start; end = latest T b e }
