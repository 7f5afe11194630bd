use mathlib.Core.Path.{◌≡◌}
use lib.ListN.{take}
use Rattle.paper.specs.Handed.{handed, list_of}
use Rattle.sets.proofs.next.beginning.Given as goal

abbrev pub invariant-loop-fold : goal.invariant-loop-fold
invariant-loop-fold l = l.out ≡ handed (take l.fold-index (list_of l.fn.set))
