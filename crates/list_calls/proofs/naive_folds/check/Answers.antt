use Prim.{tt}
use mathlib.Core.List.{[], ◌∷◌, ◌++◌}
use Rattle.paper.specs.Checks.{bad_folds, wrong_length, no_such}
use Rattle.checks.proofs.ChainLaws.{exit_is, refused_first, passed_first}
use Rattle.list_calls.proofs.naive_folds.check.Goals as goal

pub returns-in_err-folds : goal.returns-in_err-folds
returns-in_err-folds c =
    let a = c.args in
    rw (exit_is _ _ c.from_residual.ensures.1)
    (refused_first c.in_err-folds.field-0.0 (bad_folds a.folds a.n ∷ []) ((wrong_length a.room a.n ∷ []) ++ (no_such a.folds a.s ∷ [])) (tt {0}) (tt {0}) c.in_err-folds.ensures)

pub returns-in_err-list_length : goal.returns-in_err-list_length
returns-in_err-list_length c =
    let a = c.args in
    rw (exit_is _ _ c.from_residual-in_err-list_length.ensures.1)
    (passed_first (bad_folds a.folds a.n ∷ []) ((wrong_length a.room a.n ∷ []) ++ (no_such a.folds a.s ∷ [])) (tt {0}) (tt {0})
    c.in_ok-folds.ensures
    (refused_first c.in_err-list_length.field-0.0 (wrong_length a.room a.n ∷ []) ((no_such a.folds a.s ∷ [])) (tt {0}) (tt {0}) c.in_err-list_length.ensures.answer))

pub returns : goal.returns
returns c =
    let a = c.args in
    passed_first (bad_folds a.folds a.n ∷ []) ((wrong_length a.room a.n ∷ []) ++ (no_such a.folds a.s ∷ [])) (tt {0}) (tt {0})
    c.in_ok-folds.ensures
    (passed_first (wrong_length a.room a.n ∷ []) ((no_such a.folds a.s ∷ [])) (tt {0}) (tt {0})
    c.in_ok-list_length.ensures.answer
    c.below.ensures.answer)
