use native.Mathlib.Omega.{arith}
use Rattle.lists.specs.AnyLaws.{any_zero}
use Rattle.rows.proofs.RowLaws.{none_of, one_of, not_yet}
use Rattle.rows.proofs.Marker.embargoed.Goals as goal

pub loop-block-init : goal.loop-block-init
loop-block-init c = any_zero _

pub returns-then-covered : goal.returns-then-covered
returns-then-covered c = one_of _ c.loop-block.block-index _ (omega arith) c.covered.ensures c.if-covered.true

pub loop-block-preserved : goal.loop-block-preserved
loop-block-preserved c = not_yet _ c.loop-block.block-index c.loop-block.invariant c.covered.ensures c.if-covered.false

pub returns : goal.returns
returns c = none_of _ c.loop-block.block-index _ c.loop-block.invariant (omega arith) (omega arith)
