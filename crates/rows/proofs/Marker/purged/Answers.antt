use native.Mathlib.Omega.{arith}
use Rattle.lists.specs.AnyLaws.{any_zero}
use Rattle.rows.proofs.RowLaws.{none_of, one_of, not_yet}
use Rattle.rows.proofs.Marker.purged.Goals as goal

pub loop-block-init : goal.loop-block-init
loop-block-init c = any_zero _

pub hit-requires : goal.hit-requires
hit-requires c =
    let w = c.args.self.now.held.blocks in
    let j = c.loop-block.block-index in
    (omega (arith, w.some j (omega arith)), w.fits j (omega arith))

pub returns-then-hit : goal.returns-then-hit
returns-then-hit c = one_of _ c.loop-block.block-index _ (omega arith) c.hit.ensures c.if-hit.true

pub loop-block-preserved : goal.loop-block-preserved
loop-block-preserved c = not_yet _ c.loop-block.block-index c.loop-block.invariant c.hit.ensures c.if-hit.false

pub returns : goal.returns
returns c = none_of _ c.loop-block.block-index _ c.loop-block.invariant (omega arith) (omega arith)
