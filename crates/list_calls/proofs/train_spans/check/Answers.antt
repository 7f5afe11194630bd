use Prim.{tt}
use mathlib.Core.List.{[], ◌∷◌, ◌++◌}
use lib.ListN.{length}
use Rattle.std.specs.Prelude.{None, Some}
use Rattle.paper.specs.declared.refusal.Refusal.TheVariants.{LengthsDiffer}
use Rattle.paper.specs.Checks.{lengths_differ, wrong_length}
use Rattle.checks.proofs.ChainLaws.{exit_is, refused_first, passed_first}
use Rattle.row_checks.proofs.TableLaws.{table_or}
use Rattle.list_calls.proofs.train_spans.check.Goals as goal

pub returns-in_err-table-clause-answer : goal.returns-in_err-table-clause-answer
returns-in_err-table-clause-answer c =
    let a = c.args in
    rw (exit_is _ _ c.from_residual.ensures.1)
    (refused_first c.in_err-table.field-0.0 (lengths_differ a.starts.now a.ends.now ∷ []) ((lengths_differ a.tests.now a.testends.now ∷ []) ++ (wrong_length a.room (length a.starts.now) ∷ [])) (tt {0}) (tt {0}) c.in_err-table.ensures.answer)

pub returns-in_default-clause-answer : goal.returns-in_default-clause-answer
returns-in_default-clause-answer c =
    let a = c.args in
    passed_first (lengths_differ a.starts.now a.ends.now ∷ []) ((lengths_differ a.tests.now a.testends.now ∷ []) ++ (wrong_length a.room (length a.starts.now) ∷ [])) (tt {0}) (tt {0})
    c.in_ok-table.ensures.answer
    (refused_first LengthsDiffer (lengths_differ a.tests.now a.testends.now ∷ []) ((wrong_length a.room (length a.starts.now) ∷ [])) (tt {0}) (tt {0})
    (table_or a.tests.now a.testends.now None c.in_default.ensures))

pub returns-in_err-list_length-clause-answer : goal.returns-in_err-list_length-clause-answer
returns-in_err-list_length-clause-answer c =
    let a = c.args in
    let t = c.in_ok-table.ensures.passed in
    rw (exit_is _ _ c.from_residual-in_err-list_length.ensures.1)
    (passed_first (lengths_differ a.starts.now a.ends.now ∷ []) ((lengths_differ a.tests.now a.testends.now ∷ []) ++ (wrong_length a.room (length a.starts.now) ∷ [])) (tt {0}) (tt {0})
    c.in_ok-table.ensures.answer
    (passed_first (lengths_differ a.tests.now a.testends.now ∷ []) ((wrong_length a.room (length a.starts.now) ∷ [])) (tt {0}) (tt {0})
    (table_or a.tests.now a.testends.now (Some c.in-Some.test) c.in-Some.ensures)
    (rw (c.len.ensures, t.0) at c.in_err-list_length.ensures.answer)))

pub returns-clause-answer : goal.returns-clause-answer
returns-clause-answer c =
    let a = c.args in
    let t = c.in_ok-table.ensures.passed in
    passed_first (lengths_differ a.starts.now a.ends.now ∷ []) ((lengths_differ a.tests.now a.testends.now ∷ []) ++ (wrong_length a.room (length a.starts.now) ∷ [])) (tt {0}) (tt {0})
    c.in_ok-table.ensures.answer
    (passed_first (lengths_differ a.tests.now a.testends.now ∷ []) ((wrong_length a.room (length a.starts.now) ∷ [])) (tt {0}) (tt {0})
    (table_or a.tests.now a.testends.now (Some c.in-Some.test) c.in-Some.ensures)
    (rw (c.len.ensures, t.0) at c.in_ok-list_length.ensures.answer))
