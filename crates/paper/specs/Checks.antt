-- The checks of each call, in one chain each, in 01's order and numbers (01, "Refusal numbers"): a call gives the first of its
-- refusals that is due. What each refusal looks at stands in Due.
-- n is the number of rows, N that of folds, x the fraction, k the test folds of a split, m the minimum of training folds,
-- s a split number, p a path number, g a fold number; a, size and step are those of the rolling layout; room is the length of
-- the lent list that the call writes.
use Rattle.std.specs.Prelude.{List, [], ◌∷◌, ◌++◌, ℕ, ◌+◌, ◌-◌, ◌*◌, ℤ, Float, length}
use Rattle.paper.specs.declared.settings.Settings.{Settings}
use Rattle.paper.specs.Spans.{table}
use Rattle.paper.specs.Sets.{choose}
use Rattle.paper.specs.Paths.{paths}
use Rattle.paper.specs.Marks.{Rule, by_pair}
pub use Rattle.paper.specs.Due.{Check, lent, bare, first_due, lengths_differ, no_rows, too_many_rows, bad_folds, few_folds, bad_fraction, bad_span, wrong_length, bad_test_folds, bad_minimum, too_many_folds, too_many_splits, zero_size, nothing_to_test, no_such, no_split, returns_length, not_finite, out_of_range, empty_train}
unfoldable pub use Rattle.paper.specs.Due.{checked}

-- What k-fold, combinations and walk-forward check first: 12, 1, 10, 2, 3, 4, 5.
abbrev pub table_checks : List ℤ → List ℤ → Settings → ℕ → List Check
table_checks starts ends st room =
    lengths_differ starts ends
    ∷ no_rows (length starts)
    ∷ too_many_rows (length starts)
    ∷ bad_folds st.folds (length starts)
    ∷ bad_fraction st.embargo
    ∷ bad_span (table starts ends)
    ∷ wrong_length room (length starts)
    ∷ []

-- What all calls on combinations check: 6, 11, 8.
abbrev pub combination_checks : ℕ → ℕ → List Check
combination_checks N k = bad_test_folds N k ∷ too_many_folds N ∷ too_many_splits N k ∷ []

-- k-fold, by either rule. `marks` are those of the split.
abbrev pub kfold_checks : Rule → List ℤ → List ℤ → Settings → ℕ → ℕ → List ℕ → List Check
kfold_checks r starts ends st s room marks =
    table_checks starts ends st room ++ no_such st.folds s ∷ empty_train r marks

-- Combinations, by either rule.
abbrev pub cpcv_checks : Rule → List ℤ → List ℤ → Settings → ℕ → ℕ → ℕ → List ℕ → List Check
cpcv_checks r starts ends st k s room marks =
    table_checks starts ends st room
    ++ combination_checks st.folds k
    ++ no_such (choose st.folds k) s
    ∷ empty_train r marks

-- Walk-forward.
abbrev pub walk_forward_checks : List ℤ → List ℤ → Settings → ℕ → ℕ → ℕ → List Check
walk_forward_checks starts ends st m s room =
    table_checks starts ends st room ++ bad_minimum st.folds m ∷ no_such (st.folds - m) s ∷ []

-- The rolling layout: no N, the fraction for 3 only, and the pair rule. 13 is due where the split's first row is none.
abbrev pub rolling_checks : List ℤ → List ℤ → Float → ℕ → ℕ → ℕ → ℕ → ℕ → List ℕ → List Check
rolling_checks starts ends x a size step s room marks =
    lengths_differ starts ends
    ∷ no_rows (length starts)
    ∷ too_many_rows (length starts)
    ∷ bad_fraction x
    ∷ bad_span (table starts ends)
    ∷ wrong_length room (length starts)
    ∷ zero_size a size step
    ∷ nothing_to_test a (length starts)
    ∷ no_such (length starts) (a + s * step)
    ∷ empty_train by_pair marks

-- The naive splitter.
abbrev pub naive_checks : ℕ → ℕ → ℕ → ℕ → List Check
naive_checks n N s room = bad_folds N n ∷ wrong_length room n ∷ no_such N s ∷ []

-- The overlap count reads spans as they are.
abbrev pub overlap_checks : List ℤ → List ℤ → List ℕ → List ℕ → List Check
overlap_checks starts ends train test = lengths_differ starts ends ∷ out_of_range (length starts) train test ∷ []

-- `ml_get_train_times`: 12 for either pair of lists.
abbrev pub train_times_checks : List ℤ → List ℤ → List ℤ → List ℤ → ℕ → List Check
train_times_checks starts ends test_starts test_ends room =
    lengths_differ starts ends ∷ lengths_differ test_starts test_ends ∷ wrong_length room (length starts) ∷ []

-- Joining path p.
abbrev pub joining_checks : ℕ → ℕ → ℕ → ℕ → List Float → ℕ → List Check
joining_checks n N k p returns room =
    no_rows n
    ∷ too_many_rows n
    ∷ bad_folds N n
    ∷ wrong_length room n
    ∷ combination_checks N k
    ++ no_such (paths N k) p
    ∷ returns_length returns n N k
    ∷ not_finite returns
    ∷ []

-- Split count, path count.
abbrev pub numbers_checks : ℕ → ℕ → List Check
numbers_checks N k = few_folds N ∷ combination_checks N k

-- Folds of a split.
abbrev pub split_checks : ℕ → ℕ → ℕ → List Check
split_checks N k s = numbers_checks N k ++ no_such (choose N k) s ∷ []

-- The number of a fold set, and the set after it.
abbrev pub set_checks : ℕ → ℕ → List ℕ → List Check
set_checks N k set = numbers_checks N k ++ no_split N k set ∷ []

-- The split that path p takes for fold g.
abbrev pub path_checks : ℕ → ℕ → ℕ → ℕ → List Check
path_checks N k p g = numbers_checks N k ++ no_such (paths N k) p ∷ no_such N g ∷ []

-- The whole path, in a lent list of N places. A list of another length gets 5, in its place of the order.
abbrev pub whole_path_checks : ℕ → ℕ → ℕ → ℕ → List Check
whole_path_checks N k p room =
    few_folds N ∷ wrong_length room N ∷ combination_checks N k ++ no_such (paths N k) p ∷ []
