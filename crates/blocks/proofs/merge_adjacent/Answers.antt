use mathlib.Core.Path.{◌≡◌, ◌∙◌}
use mathlib.Core.Bool.{cond}
use native.Mathlib.Omega.{arith}
use borrow.Author.Rules.{rules}
use lib.Dec.{ltb}
use lib.ListN.{length}
use borrow.Author.Tests.{lt-ltb, le-ltb}
use Rattle.blocks.specs.Held.{firsts}
use Rattle.blocks.proofs.JoinLaws.{filled_firsts, filled_pasts, joins_none, joins_more, joins_cut, place_cut}
use Rattle.blocks.proofs.merge_adjacent.Goals as goal
use Rattle.blocks.proofs.merge_adjacent.Goals.{then-at-blocks, else-at-blocks}

pub loop-range-init : goal.loop-range-init
loop-range-init c = record { few = omega arith; room = search rules; joins = joins_none _ _ _ _ }

pub loop-range-preserved : goal.loop-range-preserved
loop-range-preserved c =
    let l = c.loop-range in
    let at = c.place-at.result in
    let b = firsts c.args.ranges.now l.range-index in
    let first : c.if-at-blocks.first ≡ cond (ltb at l.blocks) (firsts l.buffer at) b =
    elim c.if-at-blocks.branch [
      | then-at-blocks w ↦ rw (lt-ltb at l.blocks w.if-at-blocks.true) w.first-is
      | else-at-blocks w ↦ rw (le-ltb at l.blocks w.if-at-blocks.false) w.first-is
    ]
    in record {
      few = omega arith;
      room = search rules;
      joins =
          joins_more (c.place-at.ensures.0 ∙ place_cut l.buffer l.blocks (omega arith) b)
          (rw (← first) (filled_firsts l.buffer at _ (omega arith))) (filled_pasts l.buffer at _ (omega arith)) l.invariant.joins;
    }

pub returns : goal.returns
returns c =
    let l = c.loop-range in
    let z : l.range-index ≡ length c.args.ranges.now = omega arith in
    joins_cut l.buffer l.blocks (omega arith) (rw z at l.invariant.joins)
