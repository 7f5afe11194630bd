use mathlib.Core.Path.{◌≡◌, ap, sym, ◌∙◌}
use lib.ListN.{length}
use Rattle.std.proofs.lemmas.Grind.{common_steps}
use native.Mathlib.Omega.{arith}
use Rattle.paper.specs.Handed.{list_of, numbers}
use Rattle.sets.proofs.HandedLaws.{length-numbers}
use Rattle.sets.proofs.SplitLaws.{numbers-take}
use Rattle.sets.proofs.split.is_split.Goals as goal
use Rattle.sets.proofs.split.is_split.Goals.{After-as_slice-folds}

-- The folds in use are the list that was handed in.
used : (c : After-as_slice-folds) → numbers c.as_slice-folds.result.now ≡ list_of c.args.set
used c = ap numbers c.as_slice-folds.ensures ∙ numbers-take c.args.set.count c.args.set.folds

pub returns-then-all_below : goal.returns-then-all_below
returns-then-all_below c =
    let l : numbers c.as_slice-folds.result.now ≡ list_of c.args.set = used (goal.at.returns-then-all_below c).After-as_slice-folds in
    let p : length (list_of c.args.set) ≡ length c.as_slice-folds.result.now = ap length (sym l) ∙ length-numbers c.as_slice-folds.result.now in
    grind (arith, common_steps)

pub returns-else-all_below : goal.returns-else-all_below
returns-else-all_below c =
    let l : numbers c.as_slice-folds.result.now ≡ list_of c.args.set = used (goal.at.returns-else-all_below c).After-as_slice-folds in
    grind (arith, common_steps)
