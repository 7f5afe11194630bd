-- Refused as the checks found; else the worker's marks and counts.
use Prim.{tt}
use mathlib.Core.Path.{refl, ap, ◌∙◌}
use lib.ListN.{length}
use Rattle.paper.specs.Refusals.{done}
use Rattle.paper.specs.Marks.{counts_of}
use Rattle.paper.specs.Overlaps.{naive_marks}
use Rattle.paper.specs.Checks.{naive_checks}
use Rattle.paper.proofs.ChecksMeaning.{clear_each}
use Rattle.paper.proofs.Domains.{naive_in}
use Rattle.checks.proofs.ChainLaws.{exit_is, passed_clear, refused_gives, passed_gives, lent_refused, lent_passed}
use Rattle.list_calls.proofs.naive_folds.naive_kfold.Goals as goal

pub returns-in_err-check-clause-answer : goal.returns-in_err-check-clause-answer
returns-in_err-check-clause-answer c =
    let a = c.args in
    let e = c.in_err-check in
    rw (exit_is _ _ c.from_residual.ensures.1)
    (refused_gives e.field-0.0 (naive_checks a.n a.folds a.split.0 (length a.marks.now)) (tt {0}) (counts_of (naive_marks a.n a.folds a.split.0)) e.ensures)

pub returns-in_err-check-clause-list : goal.returns-in_err-check-clause-list
returns-in_err-check-clause-list c =
    let a = c.args in
    let e = c.in_err-check in
    let marks = naive_marks a.n a.folds a.split.0 in
    lent_refused e.field-0.0 (naive_checks a.n a.folds a.split.0 (length a.marks.now)) refl (tt {0}) e.ensures (counts_of marks) a.marks.now marks

pub mark_plain_fold-requires : goal.mark_plain_fold-requires
mark_plain_fold-requires c =
    let a = c.args in
    let cs = naive_checks a.n a.folds a.split.0 (length a.marks.now) in
    let t = naive_in a.n a.folds a.split.0 (length a.marks.now) (clear_each cs (passed_clear cs (tt {0}) c.in_ok-check.ensures)) in
    record { two = t.0.two; most = t.0.most; below = t.2; fits = t.1 }

pub returns-clause-answer : goal.returns-clause-answer
returns-clause-answer c =
    let a = c.args in
    let marks = naive_marks a.n a.folds a.split.0 in
    ap done c.mark_plain_fold.ensures.counts
    ∙ passed_gives (naive_checks a.n a.folds a.split.0 (length a.marks.now)) (tt {0}) (counts_of marks) c.in_ok-check.ensures

pub returns-clause-list : goal.returns-clause-list
returns-clause-list c =
    let a = c.args in
    let marks = naive_marks a.n a.folds a.split.0 in
    c.mark_plain_fold.ensures.lent
    ∙ lent_passed (naive_checks a.n a.folds a.split.0 (length a.marks.now)) (tt {0}) c.in_ok-check.ensures (counts_of marks) a.marks.now marks
