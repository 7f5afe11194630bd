use Prim.{tt}
use mathlib.Core.Path.{ap, ◌∙◌}
use Rattle.paper.specs.Refusals.{done}
use Rattle.paper.specs.Places.{place_of}
use Rattle.paper.specs.Handed.{list_of}
use Rattle.paper.specs.Checks.{set_checks}
use Rattle.checks.proofs.ChainLaws.{exit_is, refused_gives, passed_gives}
use Rattle.split_calls.proofs.splits.number_of_folds.Goals as goal

pub returns-in_err-split : goal.returns-in_err-split
returns-in_err-split c =
    let a = c.args in
    let e = c.in_err-split in
    rw (exit_is _ _ c.from_residual.ensures.1) (refused_gives e.field-0.0 (set_checks a.folds a.k (list_of a.set)) (tt {0}) (place_of a.folds a.k (list_of a.set)) e.ensures.answer)

pub returns : goal.returns
returns c =
    let a = c.args in
    let t = c.in_ok-split.ensures in
    ap done (rw (t.passed.0, t.passed.1, t.passed.2) at c.number.ensures) ∙ passed_gives (set_checks a.folds a.k (list_of a.set)) (tt {0}) (place_of a.folds a.k (list_of a.set)) t.answer
