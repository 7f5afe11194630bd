-- A search over the blocks: none of those passed has an embargo that covers the row.
use mathlib.Core.Path.{◌≡◌}
use mathlib.Core.Bool.{false}
use Rattle.blocks.specs.Held.{embargoes}
use Rattle.rows.specs.Asked.{covered_by}
use Rattle.rows.proofs.Marker.embargoed.Given as goal

abbrev pub invariant-loop-block : goal.invariant-loop-block
invariant-loop-block l = covered_by (embargoes l.self.blocks.now) l.self.terms.width l.i l.block-index ≡ false
