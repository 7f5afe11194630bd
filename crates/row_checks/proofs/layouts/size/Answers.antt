use Prim.{tt}
use mathlib.Core.List.{[], ◌∷◌}
use lib.ListN.{length}
use Rattle.paper.specs.Checks.{lengths_differ, no_rows, too_many_rows}
use Rattle.checks.proofs.ChainLaws.{exit_is, refused_first, passed_first}
use Rattle.row_checks.proofs.layouts.size.Goals as goal

pub returns-in_err-table-clause-answer : goal.returns-in_err-table-clause-answer
returns-in_err-table-clause-answer c =
    let a = c.args in
    rw (exit_is _ _ c.from_residual.ensures.1)
    (refused_first c.in_err-table.field-0.0 (lengths_differ a.starts.now a.ends.now ∷ []) ((no_rows (length a.starts.now) ∷ too_many_rows (length a.starts.now) ∷ [])) (tt {0}) (tt {0}) c.in_err-table.ensures.answer)

pub returns-in_err-rows-clause-answer : goal.returns-in_err-rows-clause-answer
returns-in_err-rows-clause-answer c =
    let a = c.args in
    let t = c.in_ok-table.ensures.passed in
    rw (exit_is _ _ c.from_residual-in_err-rows.ensures.1)
    (passed_first (lengths_differ a.starts.now a.ends.now ∷ []) ((no_rows (length a.starts.now) ∷ too_many_rows (length a.starts.now) ∷ [])) (tt {0}) (tt {0})
    c.in_ok-table.ensures.answer
    (rw (c.len.ensures, t.0) at c.in_err-rows.ensures.answer))

pub returns-clause-answer : goal.returns-clause-answer
returns-clause-answer c =
    let a = c.args in
    let t = c.in_ok-table.ensures.passed in
    passed_first (lengths_differ a.starts.now a.ends.now ∷ []) ((no_rows (length a.starts.now) ∷ too_many_rows (length a.starts.now) ∷ [])) (tt {0}) (tt {0})
    c.in_ok-table.ensures.answer
    (rw (c.len.ensures, t.0) at c.in_ok-rows.ensures.answer)
