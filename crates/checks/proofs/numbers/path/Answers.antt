use Prim.{tt}
use mathlib.Core.List.{[], ◌∷◌}
use Rattle.paper.specs.Paths.{paths}
use Rattle.paper.specs.Checks.{numbers_checks, no_such}
use Rattle.checks.proofs.ChainLaws.{exit_is, refused_first, passed_first}
use Rattle.checks.proofs.numbers.path.Goals as goal

pub returns-in_err-choice-clause-answer : goal.returns-in_err-choice-clause-answer
returns-in_err-choice-clause-answer c =
    let a = c.args in
    let e = c.in_err-choice in
    rw (exit_is _ _ c.from_residual.ensures.1)
    (refused_first e.field-0.0 (numbers_checks a.n a.k) (no_such (paths a.n a.k) a.p ∷ no_such a.n a.g ∷ []) tt tt e.ensures.answer)

pub returns-in_err-path_number-clause-answer : goal.returns-in_err-path_number-clause-answer
returns-in_err-path_number-clause-answer c =
    let a = c.args in
    let t = c.in_ok-choice.ensures in
    let e = c.in_err-path_number in
    rw (exit_is _ _ c.from_residual-in_err-path_number.ensures.1)
    (passed_first (numbers_checks a.n a.k) (no_such (paths a.n a.k) a.p ∷ no_such a.n a.g ∷ []) tt tt t.answer
    (refused_first e.field-0.0 (no_such (paths a.n a.k) a.p ∷ []) (no_such a.n a.g ∷ []) tt tt (rw (t.passed.0, t.passed.1) at e.ensures.answer)))

pub returns-in_err-below-clause-answer : goal.returns-in_err-below-clause-answer
returns-in_err-below-clause-answer c =
    let a = c.args in
    let t = c.in_ok-choice.ensures in
    rw (exit_is _ _ c.from_residual-in_err-below.ensures.1)
    (passed_first (numbers_checks a.n a.k) (no_such (paths a.n a.k) a.p ∷ no_such a.n a.g ∷ []) tt tt t.answer
    (passed_first (no_such (paths a.n a.k) a.p ∷ []) (no_such a.n a.g ∷ []) tt tt (rw (t.passed.0, t.passed.1) at c.in_ok-path_number.ensures.answer)
    (rw t.passed.0 at c.in_err-below.ensures.answer)))

pub returns-clause-answer : goal.returns-clause-answer
returns-clause-answer c =
    let a = c.args in
    let t = c.in_ok-choice.ensures in
    passed_first (numbers_checks a.n a.k) (no_such (paths a.n a.k) a.p ∷ no_such a.n a.g ∷ []) tt tt t.answer
    (passed_first (no_such (paths a.n a.k) a.p ∷ []) (no_such a.n a.g ∷ []) tt tt (rw (t.passed.0, t.passed.1) at c.in_ok-path_number.ensures.answer)
    (rw t.passed.0 at c.in_ok-below.ensures.answer))
