use Prim.{tt}
use mathlib.Core.List.{[], ◌∷◌}
use Rattle.paper.specs.Checks.{zero_size, nothing_to_test}
use Rattle.checks.proofs.ChainLaws.{exit_is, refused_first, passed_first}
use Rattle.row_checks.proofs.groups.sizes_within.Goals as goal

pub returns-in_err-sizes-clause-answer : goal.returns-in_err-sizes-clause-answer
returns-in_err-sizes-clause-answer c =
    let a = c.args in
    rw (exit_is _ _ c.from_residual.ensures.1)
    (refused_first c.in_err-sizes.field-0.0 (zero_size a.layout.min_train_size a.layout.test_size a.layout.step_size ∷ []) ((nothing_to_test a.layout.min_train_size a.n ∷ [])) (tt {0}) (tt {0}) c.in_err-sizes.ensures.answer)

pub returns-clause-answer : goal.returns-clause-answer
returns-clause-answer c =
    let a = c.args in
    passed_first (zero_size a.layout.min_train_size a.layout.test_size a.layout.step_size ∷ []) ((nothing_to_test a.layout.min_train_size a.n ∷ [])) (tt {0}) (tt {0})
    c.in_ok-sizes.ensures.answer
    c.refuse_if.ensures.answer
