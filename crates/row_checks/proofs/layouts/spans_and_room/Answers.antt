use Prim.{tt}
use mathlib.Core.List.{[], ◌∷◌}
use lib.ListN.{length}
use Rattle.paper.specs.Spans.{table}
use Rattle.paper.specs.Checks.{bad_span, wrong_length}
use Rattle.checks.proofs.ChainLaws.{exit_is, refused_first, passed_first}
use Rattle.row_checks.proofs.layouts.spans_and_room.Goals as goal

pub returns-in_err-spans-clause-answer : goal.returns-in_err-spans-clause-answer
returns-in_err-spans-clause-answer c =
    let a = c.args in
    rw (exit_is _ _ c.from_residual.ensures.1)
    (refused_first c.in_err-spans.field-0.0 (bad_span (table a.table.now.starts.now a.table.now.ends.now) ∷ []) ((wrong_length a.room (length a.table.now.starts.now) ∷ [])) (tt {0}) (tt {0}) c.in_err-spans.ensures.answer)

pub returns-clause-answer : goal.returns-clause-answer
returns-clause-answer c =
    let a = c.args in
    passed_first (bad_span (table a.table.now.starts.now a.table.now.ends.now) ∷ []) ((wrong_length a.room (length a.table.now.starts.now) ∷ [])) (tt {0}) (tt {0})
    c.in_ok-spans.ensures.answer
    (rw c.len.ensures at c.list_length.ensures.answer)
