-- Behind the place stand the highest folds.
use Rattle.paper.specs.Handed.{list_of}
use Rattle.sets.specs.Work.{Highest}
use Rattle.sets.proofs.choice.Split.turn.Given as goal

abbrev pub invariant-loop-i : goal.invariant-loop-i
invariant-loop-i l = Highest l.n (list_of l.self.set) l.i
