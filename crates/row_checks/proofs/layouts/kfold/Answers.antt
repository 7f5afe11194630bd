use Prim.{tt}
use mathlib.Core.List.{[], ◌∷◌}
use Rattle.paper.specs.Checks.{no_such, table_checks}
use Rattle.checks.proofs.ChainLaws.{exit_is, refused_first, passed_first}
use Rattle.row_checks.proofs.layouts.kfold.Goals as goal

pub returns-in_err-sound-clause-answer : goal.returns-in_err-sound-clause-answer
returns-in_err-sound-clause-answer c =
    let a = c.args in
    rw (exit_is _ _ c.from_residual.ensures.1)
    (refused_first c.in_err-sound.field-0.0 (table_checks a.starts.now a.ends.now a.settings a.room) ((no_such a.settings.folds a.s ∷ [])) (tt {0}) (tt {0}) c.in_err-sound.ensures.answer)

pub returns-in_err-below-clause-answer : goal.returns-in_err-below-clause-answer
returns-in_err-below-clause-answer c =
    let a = c.args in
    let t = c.in_ok-sound.ensures.passed in
    rw (exit_is _ _ c.from_residual-in_err-below.ensures.1)
    (passed_first (table_checks a.starts.now a.ends.now a.settings a.room) ((no_such a.settings.folds a.s ∷ [])) (tt {0}) (tt {0})
    c.in_ok-sound.ensures.answer
    c.in_err-below.ensures.answer)

pub returns-clause-answer : goal.returns-clause-answer
returns-clause-answer c =
    let a = c.args in
    let t = c.in_ok-sound.ensures.passed in
    passed_first (table_checks a.starts.now a.ends.now a.settings a.room) ((no_such a.settings.folds a.s ∷ [])) (tt {0}) (tt {0})
    c.in_ok-sound.ensures.answer
    c.in_ok-below.ensures.answer
