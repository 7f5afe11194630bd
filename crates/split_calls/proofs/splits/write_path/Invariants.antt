-- The list is filled fold by fold.
use mathlib.Core.Path.{◌≡◌}
use lib.ListN.{take}
use Rattle.lists.specs.Base.{tab}
use Rattle.paper.specs.Paths.{split_on_path}
use Rattle.split_calls.proofs.splits.write_path.Given as goal

abbrev pub invariant-loop-g : goal.invariant-loop-g
invariant-loop-g l = take l.g l.out ≡ tab (split_on_path l.choice.n l.choice.k l.p) l.g
