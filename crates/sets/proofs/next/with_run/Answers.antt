use mathlib.Core.Path.{◌≡◌}
use mathlib.Core.List.{◌++◌}
use Prim.Native.Nat.{◌-◌}
use native.Mathlib.Omega.{arith}
use Rattle.paper.specs.Handed.{list_of}
use Rattle.sets.specs.Work.{up}
use Rattle.sets.proofs.HandedLaws.{handed_tidy}
use Rattle.sets.proofs.NextLaws.{run_start, run_more, run_count}
use Rattle.sets.proofs.next.with_run.Goals as goal

pub loop-fold-init : goal.loop-fold-init
loop-fold-init c =
    let z : c.args.first - c.args.first ≡ 0 = omega arith in
    rw z (run_start c.args.set c.args.first c.requires.0)

pub with_fold-out-requires : goal.with_fold-out-requires
with_fold-out-requires c =
    let l = c.loop-fold in
    let m = l.fold - c.args.first in (
      handed_tidy (list_of c.args.set ++ up c.args.first m) l.invariant,
      omega (arith, run_count c.args.set l.out c.args.first m c.requires.0 l.invariant),
    )

pub loop-fold-preserved : goal.loop-fold-preserved
loop-fold-preserved c =
    let l = c.loop-fold in
    run_more c.args.set l.out c.with_fold-out.result c.args.first l.fold (omega arith) l.invariant c.with_fold-out.ensures
