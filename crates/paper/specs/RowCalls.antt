-- What each call on rows comes to: its checks in 01's order, and the result where none is due; and the marks, flags or returns
-- that it writes. What is left in the lent list is `lent` of the outcome, the list as it came in, and what is written
-- (01, "Purge, embargo, marks", "Combinations and paths", "Refusal numbers").
use Rattle.std.specs.Prelude.{List, ℕ, ℤ, Float, length}
use Prim.{Unit, tt}
use Rattle.paper.specs.declared.answers.Counts.{Counts}
use Rattle.paper.specs.declared.settings.Settings.{Settings}
use Rattle.paper.specs.Spans.{table, span_of}
use Rattle.paper.specs.Folds.{even_borders}
use Rattle.paper.specs.Width.{width_of}
use Rattle.paper.specs.Marks.{Rule, by_window, by_pair, marks_of, counts_of}
use Rattle.paper.specs.Layouts.{kfold, cpcv, walk_forward, rolling}
use Rattle.paper.specs.Overlaps.{overlap_count, train_flags, naive_marks}
use Rattle.paper.specs.Joining.{joined}
use Rattle.paper.specs.Refusals.{Outcome}
use Rattle.paper.specs.Checks.{
  checked,
  kfold_checks,
  cpcv_checks,
  walk_forward_checks,
  rolling_checks,
  naive_checks,
  overlap_checks,
  train_times_checks,
  joining_checks,
}

-- k-fold, by either rule.
abbrev pub kfold_marks : Rule → List ℤ → List ℤ → Settings → ℕ → List ℕ
kfold_marks r starts ends st s =
    let n = length starts in
    marks_of r (table starts ends) (kfold (even_borders n st.folds) s (width_of st.embargo n))

abbrev pub kfold_call : Rule → List ℤ → List ℤ → Settings → ℕ → ℕ → Outcome Counts
kfold_call r starts ends st s room =
    let marks = kfold_marks r starts ends st s in
    checked (kfold_checks r starts ends st s room marks) (counts_of marks)

-- Combinations, by either rule.
abbrev pub cpcv_marks : Rule → List ℤ → List ℤ → Settings → ℕ → ℕ → List ℕ
cpcv_marks r starts ends st k s =
    let n = length starts in
    marks_of r (table starts ends) (cpcv (even_borders n st.folds) st.folds k s (width_of st.embargo n))

abbrev pub cpcv_call : Rule → List ℤ → List ℤ → Settings → ℕ → ℕ → ℕ → Outcome Counts
cpcv_call r starts ends st k s room =
    let marks = cpcv_marks r starts ends st k s in
    checked (cpcv_checks r starts ends st k s room marks) (counts_of marks)

-- Walk-forward: the window rule.
abbrev pub walk_forward_marks : List ℤ → List ℤ → Settings → ℕ → ℕ → List ℕ
walk_forward_marks starts ends st m s =
    marks_of by_window (table starts ends) (walk_forward (even_borders (length starts) st.folds) m s)

abbrev pub walk_forward_call : List ℤ → List ℤ → Settings → ℕ → ℕ → ℕ → Outcome Counts
walk_forward_call starts ends st m s room =
    checked (walk_forward_checks starts ends st m s room) (counts_of (walk_forward_marks starts ends st m s))

-- The rolling layout: the pair rule.
abbrev pub rolling_marks : List ℤ → List ℤ → ℕ → ℕ → ℕ → ℕ → List ℕ
rolling_marks starts ends a size step s = marks_of by_pair (table starts ends) (rolling a size step s)

abbrev pub rolling_call : List ℤ → List ℤ → Float → ℕ → ℕ → ℕ → ℕ → ℕ → Outcome Counts
rolling_call starts ends x a size step s room =
    let marks = rolling_marks starts ends a size step s in
    checked (rolling_checks starts ends x a size step s room marks) (counts_of marks)

-- Plain folds.
abbrev pub naive_call : ℕ → ℕ → ℕ → ℕ → Outcome Counts
naive_call n N s room = checked (naive_checks n N s room) (counts_of (naive_marks n N s))

-- The overlap count.
abbrev pub overlap_call : List ℤ → List ℤ → List ℕ → List ℕ → Outcome ℕ
overlap_call starts ends train test =
    checked (overlap_checks starts ends train test) (overlap_count (table starts ends) train test)

-- `ml_get_train_times`.
abbrev pub flags_of : List ℤ → List ℤ → List ℤ → List ℤ → List ℕ
flags_of starts ends test_starts test_ends = train_flags (table starts ends) (length test_starts) (span_of test_starts test_ends)

abbrev pub train_times_call : List ℤ → List ℤ → List ℤ → List ℤ → ℕ → Outcome (Unit {0})
train_times_call starts ends test_starts test_ends room =
    checked (train_times_checks starts ends test_starts test_ends room) tt

-- Joining.
abbrev pub joined_returns : ℕ → ℕ → ℕ → ℕ → List Float → List Float
joined_returns n N k p returns = joined (even_borders n N) N k returns p

abbrev pub joining_call : ℕ → ℕ → ℕ → ℕ → List Float → ℕ → Outcome (Unit {0})
joining_call n N k p returns room = checked (joining_checks n N k p returns room) tt
