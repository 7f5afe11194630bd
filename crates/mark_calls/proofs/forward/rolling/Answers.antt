-- Refused as the checks found; else the marks of the rows from a + s·step on, and 17 behind them.
use Prim.{tt}
use mathlib.Core.Path.{refl}
use mathlib.Core.List.{List, [], ◌∷◌, ◌++◌}
use Prim.Native.Nat.{ℕ, ◌+◌, ◌*◌, ◌≤◌, ◌<◌}
use native.Mathlib.Omega.{arith}
use lib.IntN.{ℤ}
use lib.Ieee.{Float}
use lib.ListN.{length}
use Rattle.paper.specs.Marks.{by_pair}
use Rattle.paper.specs.Checks.{Check, zero_size, nothing_to_test, no_such}
use Rattle.paper.specs.RowCalls.{rolling_marks}
use Rattle.paper.proofs.ChecksMeaning.{clear_each}
use Rattle.paper.proofs.Domains.{TableIn}
use Rattle.row_checks.specs.RowsAlone.{rows_alone}
use Rattle.checks.proofs.ChainLaws.{exit_is, passed_clear}
use Rattle.mark_calls.proofs.OutcomeLaws.{refused_says, refused_leaves, marked_says, marked_leaves, rolling_shown}
use Rattle.mark_calls.proofs.forward.rolling.Goals as goal
use Rattle.mark_calls.proofs.forward.rolling.Goals.{In_ok-sound}

-- All checks but 17.
abbrev front : List ℤ → List ℤ → Float → ℕ → ℕ → ℕ → ℕ → ℕ → List Check
front starts ends x a size step s room =
    rows_alone starts ends x room ++ zero_size a size step ∷ nothing_to_test a (length starts) ∷ no_such (length starts) (a + s * step) ∷ []

-- What they have shown.
shown :
    (c : In_ok-sound) → let a = c.args in
    TableIn a.starts.now a.ends.now a.layout.pct_embargo (length a.marks.now) × (1 ≤ a.layout.test_size) × (a.layout.min_train_size + a.split.0 * a.layout.step_size < length a.starts.now)
shown c =
    let a = c.args in
    let f = front a.starts.now a.ends.now a.layout.pct_embargo a.layout.min_train_size a.layout.test_size a.layout.step_size a.split.0 (length a.marks.now) in
    rolling_shown a.starts.now a.ends.now a.layout.pct_embargo a.layout.min_train_size a.layout.test_size a.layout.step_size a.split.0 (length a.marks.now)
    (clear_each f (passed_clear f (tt {0}) c.in_ok-sound.ensures.answer))

pub overflow_mul-b : goal.overflow_mul-b
overflow_mul-b c =
    let t = shown (goal.at.overflow_mul-b c).In_ok-sound in
    let few = t.0.few in
    let below = t.2 in
    omega arith

pub overflow_add-b : goal.overflow_add-b
overflow_add-b c =
    let t = shown (goal.at.overflow_add-b c).In_ok-sound in
    let few = t.0.few in
    let below = t.2 in
    omega arith

pub mark_rolling-counts-requires : goal.mark_rolling-counts-requires
mark_rolling-counts-requires c =
    let p = c.in_ok-sound.ensures.passed in
    let t = shown (goal.at.mark_rolling-counts-requires c).In_ok-sound in
    record { fits = rw p.0 t.0.fits; b_in_bounds = (rw p.0 t.2, t.1) }

pub returns-in_err-sound-clause-answer : goal.returns-in_err-sound-clause-answer
returns-in_err-sound-clause-answer c =
    let a = c.args in
    let e = c.in_err-sound in
    let marks = rolling_marks a.starts.now a.ends.now a.layout.min_train_size a.layout.test_size a.layout.step_size a.split.0 in
    rw (exit_is _ _ c.from_residual.ensures.1) (refused_says (front a.starts.now a.ends.now a.layout.pct_embargo a.layout.min_train_size a.layout.test_size a.layout.step_size a.split.0 (length a.marks.now)) by_pair marks a.marks.now e.field-0.0 e.ensures.answer)

pub returns-in_err-sound-clause-list : goal.returns-in_err-sound-clause-list
returns-in_err-sound-clause-list c =
    let a = c.args in
    let e = c.in_err-sound in
    let marks = rolling_marks a.starts.now a.ends.now a.layout.min_train_size a.layout.test_size a.layout.step_size a.split.0 in
    refused_leaves (front a.starts.now a.ends.now a.layout.pct_embargo a.layout.min_train_size a.layout.test_size a.layout.step_size a.split.0 (length a.marks.now)) by_pair marks a.marks.now e.field-0.0 refl e.ensures.answer

pub returns : goal.returns
returns c =
    let a = c.args in
    let l = a.layout in
    let f = front a.starts.now a.ends.now l.pct_embargo l.min_train_size l.test_size l.step_size a.split.0 (length a.marks.now) in
    let marks = rolling_marks a.starts.now a.ends.now l.min_train_size l.test_size l.step_size a.split.0 in
    let p = c.in_ok-sound.ensures.passed in
    let h = c.in_ok-sound.ensures.answer in
    let w = rw (p.0, p.1) at c.mark_rolling-counts.ensures in
    record {
      answer = marked_says f by_pair marks a.marks.now h c.trained.result w.counted c.trained.ensures;
      list = marked_leaves f by_pair marks a.marks.now h w.marked;
    }
