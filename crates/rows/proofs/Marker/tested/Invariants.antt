-- A search over the blocks: none of those passed has the row.
use mathlib.Core.Path.{◌≡◌}
use mathlib.Core.Bool.{false}
use Rattle.laws.specs.Ranges.{ranged}
use Rattle.blocks.specs.Held.{block_firsts, block_pasts}
use Rattle.rows.proofs.Marker.tested.Given as goal

abbrev pub invariant-loop-block : goal.invariant-loop-block
invariant-loop-block l = ranged (block_firsts l.self.blocks.now) (block_pasts l.self.blocks.now) l.block-index l.i ≡ false
