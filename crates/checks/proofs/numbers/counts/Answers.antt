use Prim.{tt}
use mathlib.Core.List.{[], ◌∷◌}
use Rattle.paper.specs.Checks.{few_folds, combination_checks}
use Rattle.checks.proofs.ChainLaws.{exit_is, refused_first, passed_first}
use Rattle.checks.proofs.numbers.counts.Goals as goal

pub returns-in_err-few_folds-clause-answer : goal.returns-in_err-few_folds-clause-answer
returns-in_err-few_folds-clause-answer c =
    let e = c.in_err-few_folds in
    rw (exit_is _ _ c.from_residual.ensures.1) (refused_first e.field-0.0 (few_folds c.args.n ∷ []) (combination_checks c.args.n c.args.k) tt tt e.ensures)

pub returns-clause-answer : goal.returns-clause-answer
returns-clause-answer c =
    passed_first (few_folds c.args.n ∷ []) (combination_checks c.args.n c.args.k) tt tt c.in_ok-few_folds.ensures c.combinations.ensures.answer
