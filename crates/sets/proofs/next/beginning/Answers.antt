use native.Mathlib.Omega.{arith}
use lib.ListN.{take}
use lib.Seq.{length-take-le}
use Rattle.paper.specs.Handed.{list_of}
use Rattle.sets.proofs.HandedLaws.{handed_tidy, handed_taken, handed-count}
use Rattle.sets.proofs.next.beginning.Goals as goal

pub with_fold-out-requires : goal.with_fold-out-requires
with_fold-out-requires c =
    let l = c.loop-fold in
    let s = list_of c.args.set in
    (handed_tidy (take l.fold-index s) l.invariant, omega (arith, handed-count (take l.fold-index s) l.invariant, length-take-le l.fold-index s (omega arith)))

pub loop-fold-preserved : goal.loop-fold-preserved
loop-fold-preserved c =
    let l = c.loop-fold in
    handed_taken c.args.set l.out c.with_fold-out.result c.args.many l.fold-index (omega arith) (omega arith) l.invariant c.with_fold-out.ensures
