use Prim.{tt}
use mathlib.Core.List.{[], ◌∷◌, ◌++◌}
use Prim.Native.Nat.{◌+◌, ◌*◌}
use lib.ListN.{length}
use Rattle.paper.specs.Checks.{zero_size, nothing_to_test, no_such}
use Rattle.checks.proofs.ChainLaws.{exit_is, refused_first, passed_first}
use Rattle.row_checks.specs.RowsAlone.{rows_alone}
use Rattle.row_checks.proofs.layouts.rolling.Goals as goal

pub returns-in_err-sound-clause-answer : goal.returns-in_err-sound-clause-answer
returns-in_err-sound-clause-answer c =
    let a = c.args in
    rw (exit_is _ _ c.from_residual.ensures.1)
    (refused_first c.in_err-sound.field-0.0 (rows_alone a.starts.now a.ends.now a.layout.pct_embargo a.room) ((zero_size a.layout.min_train_size a.layout.test_size a.layout.step_size ∷ nothing_to_test a.layout.min_train_size (length a.starts.now) ∷ []) ++ (no_such (length a.starts.now) (a.layout.min_train_size + a.s * a.layout.step_size) ∷ [])) (tt {0}) (tt {0}) c.in_err-sound.ensures.answer)

pub returns-in_err-sizes_within-clause-answer : goal.returns-in_err-sizes_within-clause-answer
returns-in_err-sizes_within-clause-answer c =
    let a = c.args in
    let t = c.in_ok-sound.ensures.passed in
    rw (exit_is _ _ c.from_residual-in_err-sizes_within.ensures.1)
    (passed_first (rows_alone a.starts.now a.ends.now a.layout.pct_embargo a.room) ((zero_size a.layout.min_train_size a.layout.test_size a.layout.step_size ∷ nothing_to_test a.layout.min_train_size (length a.starts.now) ∷ []) ++ (no_such (length a.starts.now) (a.layout.min_train_size + a.s * a.layout.step_size) ∷ [])) (tt {0}) (tt {0})
    c.in_ok-sound.ensures.answer
    (refused_first c.in_err-sizes_within.field-0.0 (zero_size a.layout.min_train_size a.layout.test_size a.layout.step_size ∷ nothing_to_test a.layout.min_train_size (length a.starts.now) ∷ []) ((no_such (length a.starts.now) (a.layout.min_train_size + a.s * a.layout.step_size) ∷ [])) (tt {0}) (tt {0}) (rw (c.len-n.ensures, t.0) at c.in_err-sizes_within.ensures.answer)))

pub returns-in_err-refuse_if-clause-answer : goal.returns-in_err-refuse_if-clause-answer
returns-in_err-refuse_if-clause-answer c =
    let a = c.args in
    let t = c.in_ok-sound.ensures.passed in
    rw (exit_is _ _ c.from_residual-in_err-refuse_if.ensures.1)
    (passed_first (rows_alone a.starts.now a.ends.now a.layout.pct_embargo a.room) ((zero_size a.layout.min_train_size a.layout.test_size a.layout.step_size ∷ nothing_to_test a.layout.min_train_size (length a.starts.now) ∷ []) ++ (no_such (length a.starts.now) (a.layout.min_train_size + a.s * a.layout.step_size) ∷ [])) (tt {0}) (tt {0})
    c.in_ok-sound.ensures.answer
    (passed_first (zero_size a.layout.min_train_size a.layout.test_size a.layout.step_size ∷ nothing_to_test a.layout.min_train_size (length a.starts.now) ∷ []) ((no_such (length a.starts.now) (a.layout.min_train_size + a.s * a.layout.step_size) ∷ [])) (tt {0}) (tt {0})
    (rw (c.len-n.ensures, t.0) at c.in_ok-sizes_within.ensures.answer)
    (rw (c.begins_past-past.ensures, c.len-n.ensures, t.0) at c.in_err-refuse_if.ensures.answer)))

pub returns-clause-answer : goal.returns-clause-answer
returns-clause-answer c =
    let a = c.args in
    let t = c.in_ok-sound.ensures.passed in
    passed_first (rows_alone a.starts.now a.ends.now a.layout.pct_embargo a.room) ((zero_size a.layout.min_train_size a.layout.test_size a.layout.step_size ∷ nothing_to_test a.layout.min_train_size (length a.starts.now) ∷ []) ++ (no_such (length a.starts.now) (a.layout.min_train_size + a.s * a.layout.step_size) ∷ [])) (tt {0}) (tt {0})
    c.in_ok-sound.ensures.answer
    (passed_first (zero_size a.layout.min_train_size a.layout.test_size a.layout.step_size ∷ nothing_to_test a.layout.min_train_size (length a.starts.now) ∷ []) ((no_such (length a.starts.now) (a.layout.min_train_size + a.s * a.layout.step_size) ∷ [])) (tt {0}) (tt {0})
    (rw (c.len-n.ensures, t.0) at c.in_ok-sizes_within.ensures.answer)
    (rw (c.begins_past-past.ensures, c.len-n.ensures, t.0) at c.in_ok-refuse_if.ensures.answer))
