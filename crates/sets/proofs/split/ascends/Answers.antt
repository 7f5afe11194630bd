use lib.Dec.{ltb}
use Rattle.std.proofs.Common.{rules, tests}
use Rattle.std.proofs.lemmas.Fn.{always_returns_same}
use Rattle.sets.proofs.SplitLaws.{ascends_answer}
use Rattle.sets.proofs.split.ascends.Goals as goal

pub returns : goal.returns
returns c =
    ascends_answer c.args.folds.now c.is_sorted_by.result
    (c.is_sorted_by.ensures.cases (λ a b. ltb a.0 b.0) (always_returns_same _ _ _ (λ a r q k. search (rules, tests))))
