-- Refused as the checks found; else the worker's flags.
use Prim.{tt}
use mathlib.Core.Path.{refl, ◌∙◌}
use lib.ListN.{length}
use Rattle.paper.specs.Checks.{train_times_checks}
use Rattle.paper.specs.RowCalls.{flags_of}
use Rattle.checks.proofs.ChainLaws.{exit_is, lent_refused, lent_passed}
use Rattle.list_calls.proofs.train_spans.ml_get_train_times.Goals as goal

pub returns-in_err-table-clause-answer : goal.returns-in_err-table-clause-answer
returns-in_err-table-clause-answer c = rw (exit_is _ _ c.from_residual.ensures.1) c.in_err-table.ensures.answer

pub returns-in_err-table-clause-list : goal.returns-in_err-table-clause-list
returns-in_err-table-clause-list c =
    let a = c.args in
    let e = c.in_err-table in
    lent_refused e.field-0.0 (train_times_checks a.starts.now a.ends.now a.tests.now a.testends.now (length a.flags.now)) refl (tt {0}) e.ensures.answer (tt {0}) a.flags.now
    (flags_of a.starts.now a.ends.now a.tests.now a.testends.now)

pub returns-clause-list : goal.returns-clause-list
returns-clause-list c =
    let a = c.args in
    let t = c.in_ok-table.ensures in
    let p = t.passed in
    (rw (p.0.0, p.0.1, p.1.0, p.1.1) at c.write_flags.ensures)
    ∙ lent_passed (train_times_checks a.starts.now a.ends.now a.tests.now a.testends.now (length a.flags.now)) (tt {0}) t.answer (tt {0}) a.flags.now
    (flags_of a.starts.now a.ends.now a.tests.now a.testends.now)
