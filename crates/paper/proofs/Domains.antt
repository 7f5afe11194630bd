-- What each call that is not refused has been given: 01's domain of the call, read off its chain of checks ("Refusal numbers",
-- "Rows, times, settings"). Workers rely on these records.
use mathlib.Core.Path.{◌≡◌}
use mathlib.Core.Bool.{true, false}
use mathlib.Core.List.{List, [], ◌∷◌, ◌++◌}
use Prim.Native.Nat.{ℕ, ◌+◌, ◌-◌, ◌*◌, ◌≤◌, ◌<◌}
use lib.IntN.{ℤ}
use lib.Ieee.{Float, nan}
use lib.ListN.{length, get_or}
use Rattle.lists.specs.Base.{tally}
use Rattle.paper.specs.declared.settings.Settings.{Settings}
use Rattle.paper.specs.Spans.{table, good}
use Rattle.paper.specs.Width.{is_fraction}
use Rattle.paper.specs.Sets.{choose, too_many, is_split}
use Rattle.paper.specs.Paths.{paths}
use Rattle.paper.specs.Joining.{finite}
use Rattle.paper.specs.Marks.{Rule, by_pair}
use Rattle.paper.specs.Checks.{
  Check,
  table_checks,
  combination_checks,
  kfold_checks,
  cpcv_checks,
  walk_forward_checks,
  rolling_checks,
  naive_checks,
  overlap_checks,
  train_times_checks,
  joining_checks,
  numbers_checks,
  split_checks,
  set_checks,
  path_checks,
  whole_path_checks,
  empty_train,
  bad_minimum,
  no_such,
  no_split,
  returns_length,
  not_finite,
}
use Rattle.paper.proofs.ChecksMeaning.{Clear}
use Rattle.paper.proofs.RefusalsMeaning.{
  lengths_differ_passes,
  no_rows_passes,
  too_many_rows_passes,
  bad_folds_passes,
  few_folds_passes,
  bad_fraction_passes,
  bad_span_passes,
  wrong_length_passes,
  bad_test_folds_passes,
  bad_minimum_passes,
  too_many_folds_passes,
  zero_size_passes,
  nothing_to_test_passes,
  no_such_passes,
  no_split_passes,
  returns_length_passes,
  not_finite_passes,
  out_of_range_passes,
  empty_train_passes,
}

-- A table, a fraction, and a lent list of its length.
pub record TableIn (starts ends : List ℤ) (x : Float) (room : ℕ) : Type 0 where
  pub same : length starts ≡ length ends
  pub some : 1 ≤ length starts
  pub few : length starts ≤ 1048576
  pub fraction : is_fraction x ≡ true
  pub in_order : (i : ℕ) → i < length starts → good (table starts ends) ((table starts ends).span i) ≡ true
  pub fits : room ≡ length starts

-- Two folds or more, none of them empty.
pub record FoldsIn (N n : ℕ) : Type 0 where
  pub two : 2 ≤ N
  pub most : N ≤ n

-- Sets of folds that can be numbered.
pub record SetsIn (N k : ℕ) : Type 0 where
  pub some : 1 ≤ k
  pub less : k < N
  pub few : N ≤ 64
  pub countable : too_many N k ≡ false

-- ---- the groups that calls share, with what comes behind them

pub table_in :
    (starts ends : List ℤ) (st : Settings) (room : ℕ) (rest : List Check) → Clear (table_checks starts ends st room ++ rest) →
    TableIn starts ends st.embargo room × FoldsIn st.folds (length starts) × Clear rest
table_in starts ends st room rest h =
    let n = length starts in
    let folds = (bad_folds_passes st.folds n).shows h.1.1.1.0 in (
      record {
        same = (lengths_differ_passes starts ends).shows h.0;
        some = (no_rows_passes n).shows h.1.0;
        few = (too_many_rows_passes n).shows h.1.1.0;
        fraction = (bad_fraction_passes st.embargo).shows h.1.1.1.1.0;
        in_order = (bad_span_passes (table starts ends)).shows h.1.1.1.1.1.0;
        fits = (wrong_length_passes room n).shows h.1.1.1.1.1.1.0;
      },
      record { two = folds.0; most = folds.1 },
      h.1.1.1.1.1.1.1,
    )

pub sets_in : (N k : ℕ) (rest : List Check) → Clear (combination_checks N k ++ rest) → SetsIn N k × Clear rest
sets_in N k rest h =
    let t = (bad_test_folds_passes N k).shows h.0 in
    (record { some = t.0; less = t.1; few = (too_many_folds_passes N).shows h.1.0; countable = h.1.1.0 }, h.1.1.1)

-- ---- calls on rows

module _ (r : Rule) (starts ends : List ℤ) (st : Settings) (room : ℕ) (marks : List ℕ) where
  pub kfold_in :
      (s : ℕ) → Clear (kfold_checks r starts ends st s room marks) →
      TableIn starts ends st.embargo room × FoldsIn st.folds (length starts) × (s < st.folds)
  kfold_in s h = let t = table_in starts ends st room (no_such st.folds s ∷ empty_train r marks) h in (t.0, t.1, (no_such_passes st.folds s).shows t.2.0)

  pub cpcv_in :
      (k s : ℕ) → Clear (cpcv_checks r starts ends st k s room marks) →
      TableIn starts ends st.embargo room × FoldsIn st.folds (length starts) × SetsIn st.folds k × (s < choose st.folds k)
  cpcv_in k s h =
      let last = no_such (choose st.folds k) s ∷ empty_train r marks in
      let t = table_in starts ends st room (combination_checks st.folds k ++ last) h in
      let u = sets_in st.folds k last t.2 in
      (t.0, t.1, u.0, (no_such_passes (choose st.folds k) s).shows u.1.0)

pub walk_forward_in :
    (starts ends : List ℤ) (st : Settings) (m s : ℕ) (room : ℕ) → Clear (walk_forward_checks starts ends st m s room) →
    TableIn starts ends st.embargo room × FoldsIn st.folds (length starts) × ((1 ≤ m) × (m < st.folds)) × (s < st.folds - m)
walk_forward_in starts ends st m s room h =
    let t = table_in starts ends st room (bad_minimum st.folds m ∷ no_such (st.folds - m) s ∷ []) h in
    (t.0, t.1, (bad_minimum_passes st.folds m).shows t.2.0, (no_such_passes (st.folds - m) s).shows t.2.1.0)

pub rolling_in :
    (starts ends : List ℤ) (x : Float) (a size step s : ℕ) (room : ℕ) (marks : List ℕ) →
    Clear (rolling_checks starts ends x a size step s room marks) →
    TableIn starts ends x room × ((1 ≤ a) × (1 ≤ size) × (1 ≤ step)) × (a < length starts) × (a + s * step < length starts)
rolling_in starts ends x a size step s room marks h =
    let n = length starts in (
      record {
        same = (lengths_differ_passes starts ends).shows h.0;
        some = (no_rows_passes n).shows h.1.0;
        few = (too_many_rows_passes n).shows h.1.1.0;
        fraction = (bad_fraction_passes x).shows h.1.1.1.0;
        in_order = (bad_span_passes (table starts ends)).shows h.1.1.1.1.0;
        fits = (wrong_length_passes room n).shows h.1.1.1.1.1.0;
      },
      (zero_size_passes a size step).shows h.1.1.1.1.1.1.0,
      (nothing_to_test_passes a n).shows h.1.1.1.1.1.1.1.0,
      (no_such_passes n (a + s * step)).shows h.1.1.1.1.1.1.1.1.0,
    )

-- By the pair rule, and so in the rolling layout, a row trains: of the split's own marks, whatever the lent list held.
module _ (starts ends : List ℤ) (room : ℕ) (marks : List ℕ) where
  pub kfold-trains : (st : Settings) (s : ℕ) → Clear (kfold_checks by_pair starts ends st s room marks) → 1 ≤ tally 0 marks
  kfold-trains st s h =
      let t = table_in starts ends st room (no_such st.folds s ∷ empty_train by_pair marks) h in
      (empty_train_passes marks).shows t.2.1.0

  pub cpcv-trains : (st : Settings) (k s : ℕ) → Clear (cpcv_checks by_pair starts ends st k s room marks) → 1 ≤ tally 0 marks
  cpcv-trains st k s h =
      let last = no_such (choose st.folds k) s ∷ empty_train by_pair marks in
      let t = table_in starts ends st room (combination_checks st.folds k ++ last) h in
      (empty_train_passes marks).shows (sets_in st.folds k last t.2).1.1.0

  pub rolling-trains :
      (x : Float) (a size step s : ℕ) → Clear (rolling_checks starts ends x a size step s room marks) → 1 ≤ tally 0 marks
  rolling-trains x a size step s h = (empty_train_passes marks).shows h.1.1.1.1.1.1.1.1.1.0

pub naive_in :
    (n N s : ℕ) (room : ℕ) → Clear (naive_checks n N s room) → FoldsIn N n × (room ≡ n) × (s < N)
naive_in n N s room h =
    let t = (bad_folds_passes N n).shows h.0 in
    (record { two = t.0; most = t.1 }, (wrong_length_passes room n).shows h.1.0, (no_such_passes N s).shows h.1.1.0)

-- ---- calls on lists

pub overlap_in :
    (starts ends : List ℤ) (train test : List ℕ) → Clear (overlap_checks starts ends train test) →
    (length starts ≡ length ends) × ((i : ℕ) → i < length (train ++ test) → get_or (train ++ test) i 0 < length starts)
overlap_in starts ends train test h =
    ((lengths_differ_passes starts ends).shows h.0, (out_of_range_passes (length starts) train test).shows h.1.0)

pub train_times_in :
    (starts ends test_starts test_ends : List ℤ) (room : ℕ) → Clear (train_times_checks starts ends test_starts test_ends room) →
    (length starts ≡ length ends) × (length test_starts ≡ length test_ends) × (room ≡ length starts)
train_times_in starts ends test_starts test_ends room h =
    ((lengths_differ_passes starts ends).shows h.0, (lengths_differ_passes test_starts test_ends).shows h.1.0, (wrong_length_passes room (length starts)).shows h.1.1.0)

pub record JoiningIn (n N k p : ℕ) (returns : List Float) (room : ℕ) : Type 0 where
  pub few : n ≤ 1048576
  pub folds : FoldsIn N n
  pub fits : room ≡ n
  pub sets : SetsIn N k
  pub path : p < paths N k
  pub long : length returns ≡ paths N k * n
  pub finites : (i : ℕ) → i < length returns → finite (get_or returns i nan) ≡ true

pub joining_in : (n N k p : ℕ) (returns : List Float) (room : ℕ) → Clear (joining_checks n N k p returns room) → JoiningIn n N k p returns room
joining_in n N k p returns room h =
    let t = (bad_folds_passes N n).shows h.1.1.0 in
    let u = sets_in N k (no_such (paths N k) p ∷ returns_length returns n N k ∷ not_finite returns ∷ []) h.1.1.1.1 in
    record {
      few = (too_many_rows_passes n).shows h.1.0;
      folds = record { two = t.0; most = t.1 };
      fits = (wrong_length_passes room n).shows h.1.1.1.0;
      sets = u.0;
      path = (no_such_passes (paths N k) p).shows u.1.0;
      long = (returns_length_passes returns n N k).shows u.1.1.0;
      finites = (not_finite_passes returns).shows u.1.1.1.0;
    }

-- ---- calls on numbers alone

module _ (N k : ℕ) where
  pub numbers_in : Clear (numbers_checks N k ++ []) → (2 ≤ N) × SetsIn N k
  numbers_in h = ((few_folds_passes N).shows h.0, (sets_in N k [] h.1).0)

  pub split_in : (s : ℕ) → Clear (split_checks N k s) → (2 ≤ N) × SetsIn N k × (s < choose N k)
  split_in s h =
      let u = sets_in N k (no_such (choose N k) s ∷ []) h.1 in
      ((few_folds_passes N).shows h.0, u.0, (no_such_passes (choose N k) s).shows u.1.0)

  pub set_in : (set : List ℕ) → Clear (set_checks N k set) → (2 ≤ N) × SetsIn N k × (is_split N k set ≡ true)
  set_in set h =
      let u = sets_in N k (no_split N k set ∷ []) h.1 in
      ((few_folds_passes N).shows h.0, u.0, (no_split_passes N k set).shows u.1.0)

  pub path_in : (p g : ℕ) → Clear (path_checks N k p g) → (2 ≤ N) × SetsIn N k × (p < paths N k) × (g < N)
  path_in p g h =
      let u = sets_in N k (no_such (paths N k) p ∷ no_such N g ∷ []) h.1 in
      ((few_folds_passes N).shows h.0, u.0, (no_such_passes (paths N k) p).shows u.1.0, (no_such_passes N g).shows u.1.1.0)

  pub whole_path_in :
      (p : ℕ) (room : ℕ) → Clear (whole_path_checks N k p room) → (2 ≤ N) × (room ≡ N) × SetsIn N k × (p < paths N k)
  whole_path_in p room h =
      let u = sets_in N k (no_such (paths N k) p ∷ []) h.1.1 in
      ((few_folds_passes N).shows h.0, (wrong_length_passes room N).shows h.1.0, u.0, (no_such_passes (paths N k) p).shows u.1.0)
