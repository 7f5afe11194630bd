use Prim.{tt}
use mathlib.Core.List.{[], ◌∷◌, ◌++◌}
use Rattle.paper.specs.Paths.{paths}
use Rattle.paper.specs.Checks.{few_folds, wrong_length, combination_checks, no_such}
use Rattle.checks.proofs.ChainLaws.{exit_is, refused_first, passed_first}
use Rattle.checks.proofs.numbers.whole_path.Goals as goal

pub returns-in_err-few_folds-clause-answer : goal.returns-in_err-few_folds-clause-answer
returns-in_err-few_folds-clause-answer c =
    let a = c.args in
    let e = c.in_err-few_folds in
    rw (exit_is _ _ c.from_residual.ensures.1)
    (refused_first e.field-0.0 (few_folds a.n ∷ []) (wrong_length a.long a.n ∷ combination_checks a.n a.k ++ no_such (paths a.n a.k) a.p ∷ []) tt tt e.ensures)

pub returns-in_err-list_length-clause-answer : goal.returns-in_err-list_length-clause-answer
returns-in_err-list_length-clause-answer c =
    let a = c.args in
    let e = c.in_err-list_length in
    rw (exit_is _ _ c.from_residual-in_err-list_length.ensures.1)
    (passed_first (few_folds a.n ∷ []) (wrong_length a.long a.n ∷ combination_checks a.n a.k ++ no_such (paths a.n a.k) a.p ∷ []) tt tt c.in_ok-few_folds.ensures
    (refused_first e.field-0.0 (wrong_length a.long a.n ∷ []) (combination_checks a.n a.k ++ no_such (paths a.n a.k) a.p ∷ []) tt tt e.ensures.answer))

pub returns-in_err-choice-clause-answer : goal.returns-in_err-choice-clause-answer
returns-in_err-choice-clause-answer c =
    let a = c.args in
    let e = c.in_err-choice in
    rw (exit_is _ _ c.from_residual-in_err-choice.ensures.1)
    (passed_first (few_folds a.n ∷ []) (wrong_length a.long a.n ∷ combination_checks a.n a.k ++ no_such (paths a.n a.k) a.p ∷ []) tt tt c.in_ok-few_folds.ensures
    (passed_first (wrong_length a.long a.n ∷ []) (combination_checks a.n a.k ++ no_such (paths a.n a.k) a.p ∷ []) tt tt c.in_ok-list_length.ensures.answer
    (refused_first e.field-0.0 (combination_checks a.n a.k) (no_such (paths a.n a.k) a.p ∷ []) tt tt e.ensures.answer)))

pub returns-in_err-path_number-clause-answer : goal.returns-in_err-path_number-clause-answer
returns-in_err-path_number-clause-answer c =
    let a = c.args in
    let t = c.in_ok-choice.ensures in
    rw (exit_is _ _ c.from_residual-in_err-path_number.ensures.1)
    (passed_first (few_folds a.n ∷ []) (wrong_length a.long a.n ∷ combination_checks a.n a.k ++ no_such (paths a.n a.k) a.p ∷ []) tt tt c.in_ok-few_folds.ensures
    (passed_first (wrong_length a.long a.n ∷ []) (combination_checks a.n a.k ++ no_such (paths a.n a.k) a.p ∷ []) tt tt c.in_ok-list_length.ensures.answer
    (passed_first (combination_checks a.n a.k) (no_such (paths a.n a.k) a.p ∷ []) tt tt t.answer
    (rw (t.passed.0, t.passed.1) at c.in_err-path_number.ensures.answer))))

pub returns-clause-answer : goal.returns-clause-answer
returns-clause-answer c =
    let a = c.args in
    let t = c.in_ok-choice.ensures in
    passed_first (few_folds a.n ∷ []) (wrong_length a.long a.n ∷ combination_checks a.n a.k ++ no_such (paths a.n a.k) a.p ∷ []) tt tt c.in_ok-few_folds.ensures
    (passed_first (wrong_length a.long a.n ∷ []) (combination_checks a.n a.k ++ no_such (paths a.n a.k) a.p ∷ []) tt tt c.in_ok-list_length.ensures.answer
    (passed_first (combination_checks a.n a.k) (no_such (paths a.n a.k) a.p ∷ []) tt tt t.answer
    (rw (t.passed.0, t.passed.1) at c.in_ok-path_number.ensures.answer)))
