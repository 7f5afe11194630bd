use Prim.{tt}
use mathlib.Core.Path.{refl, ◌∙◌}
use lib.ListN.{length}
use Rattle.paper.specs.Paths.{path_of}
use Rattle.paper.specs.Checks.{whole_path_checks}
use Rattle.checks.proofs.ChainLaws.{exit_is, lent_refused, lent_passed}
use Rattle.split_calls.proofs.splits.whole_path.Goals as goal

pub returns-in_err-choice-clause-answer : goal.returns-in_err-choice-clause-answer
returns-in_err-choice-clause-answer c = rw (exit_is _ _ c.from_residual.ensures.1) c.in_err-choice.ensures.answer

pub returns-in_err-choice-clause-list : goal.returns-in_err-choice-clause-list
returns-in_err-choice-clause-list c =
    let a = c.args in
    let e = c.in_err-choice in
    lent_refused e.field-0.0 (whole_path_checks a.folds a.k a.path.0 (length a.out.now)) refl (tt {0}) e.ensures.answer (tt {0}) a.out.now
    (path_of a.folds a.k a.path.0)

pub returns-clause-list : goal.returns-clause-list
returns-clause-list c =
    let a = c.args in
    let t = c.in_ok-choice.ensures in
    (rw (t.passed.0, t.passed.1) at c.write_path.ensures)
    ∙ lent_passed (whole_path_checks a.folds a.k a.path.0 (length a.out.now)) (tt {0}) t.answer (tt {0}) a.out.now (path_of a.folds a.k a.path.0)
