-- What a row is asked, block by block, and what must be held of the blocks so that the answers give 01's mark.
use Rattle.std.specs.Prelude.{Bool, ◌&&◌, List, ℕ, ◌≤◌, length}
use Rattle.lists.specs.Base.{any, any_from}
use Rattle.paper.specs.declared.span.Span.{Span}
use Rattle.paper.specs.Spans.{Table, overlaps}
use Rattle.spans.specs.declared.table.Table as table
use Rattle.spans.specs.Tables.{table_of, rows_in}
use Rattle.laws.specs.Worker.{covers}
use Rattle.blocks.specs.declared.Block.{Block}
use Rattle.paper.specs.declared.rule.Rule.{Rule}
use Rattle.paper.specs.declared.rule.Rule.TheVariants.{Window, Pair}
use Rattle.blocks.specs.Held.{block_firsts, block_pasts, windows, embargoes, Blocks, Bounds}

-- The span a overlaps that of row q.
abbrev pub meets_at : Table → Span → ℕ → Bool
meets_at T a q = overlaps T a (T.span q)

-- The block b up to e, with the window or hull given, purges the span a. Of a span that overlaps the window, the window
-- rule asks no more; of one that overlaps the hull, the pair rule asks for a row that it overlaps.
abbrev pub hit_by : Rule → Table → Span → Span → ℕ → ℕ → Bool
hit_by Window T a bound b e = overlaps T a bound
hit_by Pair T a bound b e = overlaps T a bound && any_from (meets_at T a) b e

-- Some of the first k blocks purges the span a.
abbrev pub purged_by : Rule → Table → (ℕ → ℕ) → (ℕ → ℕ) → (ℕ → Span) → Span → ℕ → Bool
purged_by r T F G bounds a k = any (λ j. hit_by r T a (bounds j) (F j) (G j)) k

-- Some of the embargoes of the first k blocks covers row i.
abbrev pub covered_by : (ℕ → ℕ) → ℕ → ℕ → ℕ → Bool
covered_by emb width i k = any (λ j. covers (emb j) width i) k

-- The list holds the blocks of a table, with their bounds and embargoes.
pub record Held (r : Rule) (t : table.Table) (bs : List Block) : Type 0 where
  pub few : length bs ≤ 64
  pub blocks : Blocks (block_firsts bs) (block_pasts bs) (length bs) (rows_in t)
  pub bounds :
      Bounds r (table_of t) (block_firsts bs) (block_pasts bs) (length bs) (λ j. (windows bs j).start) (λ j. (windows bs j).end)
      (embargoes bs)
