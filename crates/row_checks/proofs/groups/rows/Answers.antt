use Prim.{tt}
use mathlib.Core.List.{[], ◌∷◌}
use Rattle.paper.specs.Checks.{no_rows, too_many_rows}
use Rattle.checks.proofs.ChainLaws.{exit_is, refused_first, passed_first}
use Rattle.row_checks.proofs.groups.rows.Goals as goal

pub returns-in_err-refuse_if-clause-answer : goal.returns-in_err-refuse_if-clause-answer
returns-in_err-refuse_if-clause-answer c =
    let a = c.args in
    rw (exit_is _ _ c.from_residual.ensures.1)
    (refused_first c.in_err-refuse_if.field-0.0 (no_rows a.n ∷ []) ((too_many_rows a.n ∷ [])) (tt {0}) (tt {0}) c.in_err-refuse_if.ensures.answer)

pub returns-clause-answer : goal.returns-clause-answer
returns-clause-answer c =
    let a = c.args in
    passed_first (no_rows a.n ∷ []) ((too_many_rows a.n ∷ [])) (tt {0}) (tt {0})
    c.in_ok-refuse_if.ensures.answer
    c.refuse_if-2.ensures.answer
