use Prim.{tt}
use mathlib.Core.List.{[], ◌∷◌}
use Rattle.paper.specs.Handed.{list_of}
use Rattle.paper.specs.Checks.{numbers_checks, no_split}
use Rattle.checks.proofs.ChainLaws.{exit_is, refused_first, passed_first}
use Rattle.checks.proofs.numbers.set.Goals as goal

pub returns-in_err-counts-clause-answer : goal.returns-in_err-counts-clause-answer
returns-in_err-counts-clause-answer c =
    let a = c.args in
    let e = c.in_err-counts in
    rw (exit_is _ _ c.from_residual.ensures.1) (refused_first e.field-0.0 (numbers_checks a.n a.k) (no_split a.n a.k (list_of a.folds) ∷ []) tt tt e.ensures.answer)

pub returns-clause-answer : goal.returns-clause-answer
returns-clause-answer c =
    let a = c.args in
    let t = c.in_ok-counts.ensures in
    passed_first (numbers_checks a.n a.k) (no_split a.n a.k (list_of a.folds) ∷ []) tt tt t.answer
    (rw (t.passed.0, t.passed.1) at c.split_of.ensures.answer)
