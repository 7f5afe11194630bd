use Prim.{tt}
use mathlib.Core.List.{[], ◌∷◌, ◌++◌}
use Rattle.paper.specs.Sets.{choose}
use Rattle.paper.specs.Checks.{no_such, table_checks, combination_checks}
use Rattle.checks.proofs.ChainLaws.{exit_is, refused_first, passed_first}
use Rattle.row_checks.proofs.layouts.cpcv.Goals as goal

pub returns-in_err-sound-clause-answer : goal.returns-in_err-sound-clause-answer
returns-in_err-sound-clause-answer c =
    let a = c.args in
    rw (exit_is _ _ c.from_residual.ensures.1)
    (refused_first c.in_err-sound.field-0.0 (table_checks a.starts.now a.ends.now a.settings a.room) ((combination_checks a.settings.folds a.k) ++ (no_such (choose a.settings.folds a.k) a.s ∷ [])) (tt {0}) (tt {0}) c.in_err-sound.ensures.answer)

pub returns-in_err-choice-clause-answer : goal.returns-in_err-choice-clause-answer
returns-in_err-choice-clause-answer c =
    let a = c.args in
    let t = c.in_ok-sound.ensures.passed in
    rw (exit_is _ _ c.from_residual-in_err-choice.ensures.1)
    (passed_first (table_checks a.starts.now a.ends.now a.settings a.room) ((combination_checks a.settings.folds a.k) ++ (no_such (choose a.settings.folds a.k) a.s ∷ [])) (tt {0}) (tt {0})
    c.in_ok-sound.ensures.answer
    (refused_first c.in_err-choice.field-0.0 (combination_checks a.settings.folds a.k) ((no_such (choose a.settings.folds a.k) a.s ∷ [])) (tt {0}) (tt {0}) c.in_err-choice.ensures.answer))

pub returns-in_err-split_number-clause-answer : goal.returns-in_err-split_number-clause-answer
returns-in_err-split_number-clause-answer c =
    let a = c.args in
    let t = c.in_ok-sound.ensures.passed in
    let p = c.in_ok-choice.ensures.passed in
    rw (exit_is _ _ c.from_residual-in_err-split_number.ensures.1)
    (passed_first (table_checks a.starts.now a.ends.now a.settings a.room) ((combination_checks a.settings.folds a.k) ++ (no_such (choose a.settings.folds a.k) a.s ∷ [])) (tt {0}) (tt {0})
    c.in_ok-sound.ensures.answer
    (passed_first (combination_checks a.settings.folds a.k) ((no_such (choose a.settings.folds a.k) a.s ∷ [])) (tt {0}) (tt {0})
    c.in_ok-choice.ensures.answer
    (rw (p.0, p.1) at c.in_err-split_number.ensures.answer)))

pub returns-clause-answer : goal.returns-clause-answer
returns-clause-answer c =
    let a = c.args in
    let t = c.in_ok-sound.ensures.passed in
    let p = c.in_ok-choice.ensures.passed in
    passed_first (table_checks a.starts.now a.ends.now a.settings a.room) ((combination_checks a.settings.folds a.k) ++ (no_such (choose a.settings.folds a.k) a.s ∷ [])) (tt {0}) (tt {0})
    c.in_ok-sound.ensures.answer
    (passed_first (combination_checks a.settings.folds a.k) ((no_such (choose a.settings.folds a.k) a.s ∷ [])) (tt {0}) (tt {0})
    c.in_ok-choice.ensures.answer
    (rw (p.0, p.1) at c.in_ok-split_number.ensures.answer))
