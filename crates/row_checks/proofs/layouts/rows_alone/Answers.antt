use Prim.{tt}
use mathlib.Core.List.{[], ◌∷◌, ◌++◌}
use lib.ListN.{length}
use Rattle.paper.specs.Spans.{table}
use Rattle.paper.specs.Checks.{lengths_differ, no_rows, too_many_rows, bad_fraction, bad_span, wrong_length}
use Rattle.checks.proofs.ChainLaws.{exit_is, refused_first, passed_first}
use Rattle.row_checks.proofs.layouts.rows_alone.Goals as goal

pub returns-in_err-table-clause-answer : goal.returns-in_err-table-clause-answer
returns-in_err-table-clause-answer c =
    let a = c.args in
    rw (exit_is _ _ c.from_residual.ensures.1)
    (refused_first c.in_err-table.field-0.0 (lengths_differ a.starts.now a.ends.now ∷ no_rows (length a.starts.now) ∷ too_many_rows (length a.starts.now) ∷ []) ((bad_fraction a.x ∷ []) ++ (bad_span (table a.starts.now a.ends.now) ∷ wrong_length a.room (length a.starts.now) ∷ [])) (tt {0}) (tt {0}) c.in_err-table.ensures.answer)

pub returns-in_err-fraction-clause-answer : goal.returns-in_err-fraction-clause-answer
returns-in_err-fraction-clause-answer c =
    let a = c.args in
    let t = c.in_ok-table.ensures.passed.0 in
    rw (exit_is _ _ c.from_residual-in_err-fraction.ensures.1)
    (passed_first (lengths_differ a.starts.now a.ends.now ∷ no_rows (length a.starts.now) ∷ too_many_rows (length a.starts.now) ∷ []) ((bad_fraction a.x ∷ []) ++ (bad_span (table a.starts.now a.ends.now) ∷ wrong_length a.room (length a.starts.now) ∷ [])) (tt {0}) (tt {0})
    c.in_ok-table.ensures.answer
    (refused_first c.in_err-fraction.field-0.0 (bad_fraction a.x ∷ []) ((bad_span (table a.starts.now a.ends.now) ∷ wrong_length a.room (length a.starts.now) ∷ [])) (tt {0}) (tt {0}) c.in_err-fraction.ensures))

pub returns-in_err-spans_and_room-clause-answer : goal.returns-in_err-spans_and_room-clause-answer
returns-in_err-spans_and_room-clause-answer c =
    let a = c.args in
    let t = c.in_ok-table.ensures.passed.0 in
    rw (exit_is _ _ c.from_residual-in_err-spans_and_room.ensures.1)
    (passed_first (lengths_differ a.starts.now a.ends.now ∷ no_rows (length a.starts.now) ∷ too_many_rows (length a.starts.now) ∷ []) ((bad_fraction a.x ∷ []) ++ (bad_span (table a.starts.now a.ends.now) ∷ wrong_length a.room (length a.starts.now) ∷ [])) (tt {0}) (tt {0})
    c.in_ok-table.ensures.answer
    (passed_first (bad_fraction a.x ∷ []) ((bad_span (table a.starts.now a.ends.now) ∷ wrong_length a.room (length a.starts.now) ∷ [])) (tt {0}) (tt {0})
    c.in_ok-fraction.ensures
    (rw (t.0, t.1) at c.in_err-spans_and_room.ensures.answer)))

pub invariant_of-result : goal.invariant_of-result
invariant_of-result c =
    let t = c.in_ok-table.ensures.passed in
    record { few = rw t.0.0 t.1; good = c.in_ok-spans_and_room.ensures.passed }

pub returns-clause-answer : goal.returns-clause-answer
returns-clause-answer c =
    let a = c.args in
    let t = c.in_ok-table.ensures.passed.0 in
    passed_first (lengths_differ a.starts.now a.ends.now ∷ no_rows (length a.starts.now) ∷ too_many_rows (length a.starts.now) ∷ []) ((bad_fraction a.x ∷ []) ++ (bad_span (table a.starts.now a.ends.now) ∷ wrong_length a.room (length a.starts.now) ∷ [])) (tt {0}) (tt {0})
    c.in_ok-table.ensures.answer
    (passed_first (bad_fraction a.x ∷ []) ((bad_span (table a.starts.now a.ends.now) ∷ wrong_length a.room (length a.starts.now) ∷ [])) (tt {0}) (tt {0})
    c.in_ok-fraction.ensures
    (rw (t.0, t.1) at c.in_ok-spans_and_room.ensures.answer))
