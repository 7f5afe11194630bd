use Prim.{tt}
use mathlib.Core.Path.{ap, ◌∙◌}
use Rattle.paper.specs.Refusals.{done}
use Rattle.paper.specs.Sets.{choose}
use Rattle.paper.specs.Checks.{numbers_checks}
use Rattle.checks.proofs.ChainLaws.{exit_is, refused_gives, passed_gives}
use Rattle.split_calls.proofs.splits.split_count.Goals as goal

pub returns-in_err-choice : goal.returns-in_err-choice
returns-in_err-choice c =
    let a = c.args in
    let e = c.in_err-choice in
    rw (exit_is _ _ c.from_residual.ensures.1) (refused_gives e.field-0.0 (numbers_checks a.folds a.k) (tt {0}) (choose a.folds a.k) e.ensures.answer)

pub returns : goal.returns
returns c =
    let a = c.args in
    let t = c.in_ok-choice.ensures in
    ap done (rw (t.passed.0, t.passed.1) at c.n_choose_k.ensures) ∙ passed_gives (numbers_checks a.folds a.k) (tt {0}) (choose a.folds a.k) t.answer
