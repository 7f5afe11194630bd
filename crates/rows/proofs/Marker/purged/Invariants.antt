-- A search over the blocks: none of those passed purges the row.
use mathlib.Core.Path.{◌≡◌}
use mathlib.Core.Bool.{false}
use Rattle.spans.specs.Tables.{table_of}
use Rattle.blocks.specs.Held.{block_firsts, block_pasts, windows}
use Rattle.rows.specs.Asked.{purged_by}
use Rattle.rows.proofs.Marker.purged.Given as goal

abbrev pub invariant-loop-block : goal.invariant-loop-block
invariant-loop-block l = purged_by l.self.terms.rule (table_of l.self.sound.table) (block_firsts l.self.blocks.now) (block_pasts l.self.blocks.now) (windows l.self.blocks.now) l.a l.block-index ≡ false
