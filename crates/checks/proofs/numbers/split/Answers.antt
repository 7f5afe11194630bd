use Prim.{tt}
use mathlib.Core.List.{[], ◌∷◌}
use Rattle.paper.specs.Sets.{choose}
use Rattle.paper.specs.Checks.{numbers_checks, no_such}
use Rattle.checks.proofs.ChainLaws.{exit_is, refused_first, passed_first}
use Rattle.checks.proofs.numbers.split.Goals as goal

pub returns-in_err-choice-clause-answer : goal.returns-in_err-choice-clause-answer
returns-in_err-choice-clause-answer c =
    let a = c.args in
    let e = c.in_err-choice in
    rw (exit_is _ _ c.from_residual.ensures.1) (refused_first e.field-0.0 (numbers_checks a.n a.k) (no_such (choose a.n a.k) a.s ∷ []) tt tt e.ensures.answer)

pub returns-in_err-split_number-clause-answer : goal.returns-in_err-split_number-clause-answer
returns-in_err-split_number-clause-answer c =
    let a = c.args in
    let t = c.in_ok-choice.ensures in
    rw (exit_is _ _ c.from_residual-in_err-split_number.ensures.1)
    (passed_first (numbers_checks a.n a.k) (no_such (choose a.n a.k) a.s ∷ []) tt tt t.answer
    (rw (t.passed.0, t.passed.1) at c.in_err-split_number.ensures.answer))

pub returns-clause-answer : goal.returns-clause-answer
returns-clause-answer c =
    let a = c.args in
    let t = c.in_ok-choice.ensures in
    passed_first (numbers_checks a.n a.k) (no_such (choose a.n a.k) a.s ∷ []) tt tt t.answer
    (rw (t.passed.0, t.passed.1) at c.in_ok-split_number.ensures.answer)
