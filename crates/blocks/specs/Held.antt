-- What the marking code holds: ranges of rows, and for each block the span that a row is first compared with and the row
-- where the block's embargo begins (01, "Purge, embargo, marks"). The laws speak of functions of a place, so a list of either
-- is read as such functions.
use Rattle.std.specs.Prelude.{◌≡◌, not, List, ℕ, ◌+◌, ◌-◌, ◌≤◌, ◌<◌, leb, ℤ, pos, length, get_or}
use Rattle.lists.specs.Base.{first_from, over}
use Rattle.paper.specs.declared.span.Span.{Span}
use Rattle.paper.specs.Spans.{Table, reaches}
use Rattle.paper.specs.Blocks.{latest}
use Rattle.paper.specs.Embargo.{embargo_from}
use Rattle.paper.specs.Marks as marks
use Rattle.paper.proofs.Times.{earlier}
use Rattle.laws.specs.Worker.{ranged_split}
use Rattle.folds.specs.declared.RowRange.{RowRange}
use Rattle.blocks.specs.declared.Block.{Block}
use Rattle.paper.specs.declared.rule.Rule.{Rule}
use Rattle.paper.specs.declared.rule.Rule.TheVariants.{Window, Pair}

-- Place j of a list of times.
abbrev pub time : List ℤ → ℕ → ℤ
time l j = get_or l j (pos 0)

-- Range j of a list: its first row, and the row past it.
abbrev pub range_at : List RowRange → ℕ → RowRange
range_at l j = get_or l j (record { first = 0; past = 0 })

abbrev pub firsts : List RowRange → ℕ → ℕ
firsts l j = (range_at l j).first

abbrev pub pasts : List RowRange → ℕ → ℕ
pasts l j = (range_at l j).past

-- Block j of a list: the same of its rows, its window or hull, and the row where its embargo begins.
abbrev pub block_at : List Block → ℕ → Block
block_at l j =
    get_or l j (record { rows = record { first = 0; past = 0 }; window = record { start = pos 0; end = pos 0 }; embargo = 0 })

abbrev pub block_firsts : List Block → ℕ → ℕ
block_firsts l j = (block_at l j).rows.first

abbrev pub block_pasts : List Block → ℕ → ℕ
block_pasts l j = (block_at l j).rows.past

abbrev pub windows : List Block → ℕ → Span
windows l j = (block_at l j).window

abbrev pub embargoes : List Block → ℕ → ℕ
embargoes l j = (block_at l j).embargo

-- The split that tests the ranges of a list. Rows from `used` on take no part.
abbrev pub list_split : List RowRange → ℕ → ℕ → marks.Split
list_split l used width = ranged_split (firsts l) (pasts l) (length l) (leb used) width

-- The same of blocks.
abbrev pub block_split : List Block → ℕ → ℕ → marks.Split
block_split l used width = ranged_split (block_firsts l) (block_pasts l) (length l) (leb used) width

-- The first row from e on that starts after `end`: with a block's latest end, `embargo_from`.
abbrev pub steps_to : List ℤ → ℤ → ℕ → ℕ
steps_to starts end e = first_from (λ i. not (reaches (time starts i) end)) e (length starts - e)

-- Where the window of the rows b up to e begins, or their hull, from the starts of all rows.
abbrev pub lowest : Rule → (ℕ → ℤ) → ℕ → ℕ → ℤ
lowest Window start b e = start b
lowest Pair start b e = over earlier start b e

-- Blocks of n rows: ranges with a row between each and the next.
pub record Blocks (F G : ℕ → ℕ) (k n : ℕ) : Type 0 where
  pub some : (j : ℕ) → j < k → F j < G j
  pub gap : (j : ℕ) → j + 1 < k → G j < F (j + 1)
  pub fits : (j : ℕ) → j < k → G j ≤ n

-- What is held for each of k blocks.
pub record Bounds (r : Rule) (T : Table) (F G : ℕ → ℕ) (k : ℕ) (lo hi : ℕ → ℤ) (emb : ℕ → ℕ) : Type 0 where
  pub low : (j : ℕ) → j < k → lo j ≡ lowest r (λ i. (T.span i).start) (F j) (G j)
  pub high : (j : ℕ) → j < k → hi j ≡ latest T (F j) (G j)
  pub embargo : (j : ℕ) → j < k → emb j ≡ embargo_from T (F j) (G j)

-- What is held of one block, that has the rows given.
pub record BoundOf (r : Rule) (T : Table) (rows : RowRange) (b : Block) : Type 0 where
  pub same : b.rows ≡ rows
  pub low : b.window.start ≡ lowest r (λ i. (T.span i).start) rows.first rows.past
  pub high : b.window.end ≡ latest T rows.first rows.past
  pub embargo : b.embargo ≡ embargo_from T rows.first rows.past

-- What is held of all blocks of a list.
pub record Bound (r : Rule) (T : Table) (ranges : List RowRange) (blocks : List Block) : Type 0 where
  pub many : length blocks ≡ length ranges
  pub each : (j : ℕ) → j < length ranges → BoundOf r T (range_at ranges j) (block_at blocks j)
