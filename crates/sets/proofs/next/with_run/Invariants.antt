use mathlib.Core.Path.{◌≡◌}
use mathlib.Core.List.{◌++◌}
use Prim.Native.Nat.{◌-◌}
use Rattle.paper.specs.Handed.{handed, list_of}
use Rattle.sets.specs.Work.{up}
use Rattle.sets.proofs.next.with_run.Given as goal

abbrev pub invariant-loop-fold : goal.invariant-loop-fold
invariant-loop-fold l = l.out ≡ handed (list_of l.initial.out ++ up l.first (l.fold - l.first))
