use mathlib.Core.Path.{◌∙◌}
use lib.Dec.{ltb}
use Rattle.std.proofs.Common.{rules, tests}
use Rattle.std.proofs.lemmas.Iterator.{YieldsList-from_slice}
use Rattle.std.proofs.lemmas.Iterator.Search.{all_from_yields_List}
use Rattle.sets.proofs.SplitLaws.{below_each}
use Rattle.sets.proofs.split.all_below.Goals as goal

pub returns : goal.returns
returns c =
    all_from_yields_List (λ f. ltb f.0 c.args.n) _ _ c.all.result c.all.ensures.ran (YieldsList-from_slice c.args.folds.now cc) (λ x b q k. search (rules, tests))
    ∙ below_each c.args.n c.args.folds.now
