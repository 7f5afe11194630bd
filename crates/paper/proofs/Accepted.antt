-- The other half of Domains: a call that is given 01's domain is refused by none of its checks ("Refusal numbers": exactly
-- when). And which refusal zero rows get.
use mathlib.Core.Path.{◌≡◌, refl}
use mathlib.Core.Bool.{true}
use mathlib.Core.List.{List, [], ◌∷◌, ◌++◌}
use Prim.{tt}
use Prim.Native.Nat.{ℕ, zero, suc, ◌+◌, ◌-◌, ◌*◌, ◌≤◌, ◌<◌}
use native.Mathlib.Omega.{arith}
use lib.IntN.{ℤ}
use lib.Ieee.{Float}
use lib.ListN.{length, get_or}
use borrow.Author.Tests.{le-ltb, lt-ltb}
use Rattle.lists.specs.Base.{tally}
use Rattle.paper.specs.declared.settings.Settings.{Settings}
use Rattle.paper.specs.Refusals.{refused, nothing, two}
use Rattle.paper.specs.Spans.{table}
use Rattle.paper.specs.Sets.{choose, is_split}
use Rattle.paper.specs.Paths.{paths}
use Rattle.paper.specs.Marks.{by_window, by_pair}
use Rattle.paper.specs.Checks.{
  Check,
  checked,
  table_checks,
  combination_checks,
  kfold_checks,
  cpcv_checks,
  walk_forward_checks,
  rolling_checks,
  naive_checks,
  overlap_checks,
  train_times_checks,
  joining_checks,
  numbers_checks,
  split_checks,
  set_checks,
  path_checks,
  whole_path_checks,
  empty_train,
  bad_minimum,
  no_such,
  no_split,
  returns_length,
  not_finite,
}
use Rattle.paper.proofs.ChecksMeaning.{Clear}
use Rattle.paper.proofs.Domains.{TableIn, FoldsIn, SetsIn, JoiningIn}
use Rattle.paper.proofs.RefusalsMeaning.{
  lengths_differ_passes,
  no_rows_passes,
  too_many_rows_passes,
  bad_folds_passes,
  few_folds_passes,
  bad_fraction_passes,
  bad_span_passes,
  wrong_length_passes,
  bad_test_folds_passes,
  bad_minimum_passes,
  too_many_folds_passes,
  zero_size_passes,
  nothing_to_test_passes,
  no_such_passes,
  no_split_passes,
  returns_length_passes,
  not_finite_passes,
  out_of_range_passes,
  empty_train_passes,
}

-- ---- the groups that calls share

table-clear :
    (starts ends : List ℤ) (st : Settings) (room : ℕ) (rest : List Check) → TableIn starts ends st.embargo room →
    FoldsIn st.folds (length starts) → Clear rest → Clear (table_checks starts ends st room ++ rest)
table-clear starts ends st room rest t f c =
    let n = length starts in (
      (lengths_differ_passes starts ends).holds t.same,
      (
        (no_rows_passes n).holds t.some,
        (
          (too_many_rows_passes n).holds t.few,
          (
            (bad_folds_passes st.folds n).holds (f.two, f.most),
            (
              (bad_fraction_passes st.embargo).holds t.fraction,
              ((bad_span_passes (table starts ends)).holds t.in_order, ((wrong_length_passes room n).holds t.fits, c)),
            ),
          ),
        ),
      ),
    )

sets_clear : (N k : ℕ) (rest : List Check) → SetsIn N k → Clear rest → Clear (combination_checks N k ++ rest)
sets_clear N k rest u c =
    ((bad_test_folds_passes N k).holds (u.some, u.less), ((too_many_folds_passes N).holds u.few, (u.countable, c)))

-- ---- calls on rows

module _ (starts ends : List ℤ) (st : Settings) (room : ℕ) (marks : List ℕ) where
  pub kfold_accepted :
      (s : ℕ) → TableIn starts ends st.embargo room → FoldsIn st.folds (length starts) → s < st.folds →
      Clear (kfold_checks by_window starts ends st s room marks)
      × (1 ≤ tally 0 marks → Clear (kfold_checks by_pair starts ends st s room marks))
  kfold_accepted s t f h =
      let l = (no_such_passes st.folds s).holds h in (
        table-clear starts ends st room (no_such st.folds s ∷ []) t f (l, tt),
        λ m. table-clear starts ends st room (no_such st.folds s ∷ empty_train by_pair marks) t f (l, ((empty_train_passes marks).holds m, tt)),
      )

  pub cpcv_accepted :
      (k s : ℕ) → TableIn starts ends st.embargo room → FoldsIn st.folds (length starts) → SetsIn st.folds k →
      s < choose st.folds k →
      Clear (cpcv_checks by_window starts ends st k s room marks)
      × (1 ≤ tally 0 marks → Clear (cpcv_checks by_pair starts ends st k s room marks))
  cpcv_accepted k s t f u h =
      let N = st.folds in
      let l = (no_such_passes (choose N k) s).holds h in (
        table-clear starts ends st room (combination_checks N k ++ no_such (choose N k) s ∷ []) t f
            (sets_clear N k (no_such (choose N k) s ∷ []) u (l, tt)),
        λ m. table-clear starts ends st room (combination_checks N k ++ no_such (choose N k) s ∷ empty_train by_pair marks) t f
            (sets_clear N k (no_such (choose N k) s ∷ empty_train by_pair marks) u (l, ((empty_train_passes marks).holds m, tt))),
      )

  pub walk_forward_accepted :
      (m s : ℕ) → TableIn starts ends st.embargo room → FoldsIn st.folds (length starts) → 1 ≤ m → m < st.folds →
      s < st.folds - m → Clear (walk_forward_checks starts ends st m s room)
  walk_forward_accepted m s t f g l h =
      table-clear starts ends st room (bad_minimum st.folds m ∷ no_such (st.folds - m) s ∷ []) t f
      ((bad_minimum_passes st.folds m).holds (g, l), ((no_such_passes (st.folds - m) s).holds h, tt))

pub rolling_accepted :
    (starts ends : List ℤ) (x : Float) (a size step s : ℕ) (room : ℕ) (marks : List ℕ) → TableIn starts ends x room → 1 ≤ a →
    1 ≤ size → 1 ≤ step → a + s * step < length starts → 1 ≤ tally 0 marks →
    Clear (rolling_checks starts ends x a size step s room marks)
rolling_accepted starts ends x a size step s room marks t p q r h m =
    let n = length starts in (
      (lengths_differ_passes starts ends).holds t.same,
      (
        (no_rows_passes n).holds t.some,
        (
          (too_many_rows_passes n).holds t.few,
          (
            (bad_fraction_passes x).holds t.fraction,
            (
              (bad_span_passes (table starts ends)).holds t.in_order,
              (
                (wrong_length_passes room n).holds t.fits,
                (
                  (zero_size_passes a size step).holds (p, q, r),
                  (
                    (nothing_to_test_passes a n).holds (omega arith),
                    ((no_such_passes n (a + s * step)).holds h, ((empty_train_passes marks).holds m, tt)),
                  ),
                ),
              ),
            ),
          ),
        ),
      ),
    )

pub naive_accepted : (n N s : ℕ) (room : ℕ) → FoldsIn N n → room ≡ n → s < N → Clear (naive_checks n N s room)
naive_accepted n N s room f l h =
    ((bad_folds_passes N n).holds (f.two, f.most), ((wrong_length_passes room n).holds l, ((no_such_passes N s).holds h, tt)))

-- ---- calls on lists

pub overlap_accepted :
    (starts ends : List ℤ) (train test : List ℕ) → length starts ≡ length ends →
    ((i : ℕ) → i < length (train ++ test) → get_or (train ++ test) i 0 < length starts) →
    Clear (overlap_checks starts ends train test)
overlap_accepted starts ends train test e h =
    ((lengths_differ_passes starts ends).holds e, ((out_of_range_passes (length starts) train test).holds h, tt))

pub train_times_accepted :
    (starts ends test_starts test_ends : List ℤ) (room : ℕ) → length starts ≡ length ends →
    length test_starts ≡ length test_ends → room ≡ length starts →
    Clear (train_times_checks starts ends test_starts test_ends room)
train_times_accepted starts ends test_starts test_ends room e f l = (
  (lengths_differ_passes starts ends).holds e,
  ((lengths_differ_passes test_starts test_ends).holds f, ((wrong_length_passes room (length starts)).holds l, tt)),
)

pub joining_accepted :
    (n N k p : ℕ) (returns : List Float) (room : ℕ) → JoiningIn n N k p returns room → Clear (joining_checks n N k p returns room)
joining_accepted n N k p returns room j =
    let f = j.folds in (
      (no_rows_passes n).holds (omega (arith, f.two, f.most)),
      (
        (too_many_rows_passes n).holds j.few,
        (
          (bad_folds_passes N n).holds (f.two, f.most),
          (
            (wrong_length_passes room n).holds j.fits,
            sets_clear N k (no_such (paths N k) p ∷ returns_length returns n N k ∷ not_finite returns ∷ []) j.sets (
              (no_such_passes (paths N k) p).holds j.path,
              ((returns_length_passes returns n N k).holds j.long, ((not_finite_passes returns).holds j.finites, tt)),
            ),
          ),
        ),
      ),
    )

-- ---- calls on numbers alone

module _ (N k : ℕ) (h : 2 ≤ N) (u : SetsIn N k) where
  pub numbers_accepted : Clear (numbers_checks N k ++ [])
  numbers_accepted = ((few_folds_passes N).holds h, sets_clear N k [] u tt)

  pub split_accepted : (s : ℕ) → s < choose N k → Clear (split_checks N k s)
  split_accepted s l =
      ((few_folds_passes N).holds h, sets_clear N k (no_such (choose N k) s ∷ []) u ((no_such_passes (choose N k) s).holds l, tt))

  pub set_accepted : (set : List ℕ) → is_split N k set ≡ true → Clear (set_checks N k set)
  set_accepted set l =
      ((few_folds_passes N).holds h, sets_clear N k (no_split N k set ∷ []) u ((no_split_passes N k set).holds l, tt))

  pub path_accepted : (p g : ℕ) → p < paths N k → g < N → Clear (path_checks N k p g)
  path_accepted p g l m = (
    (few_folds_passes N).holds h,
    sets_clear N k (no_such (paths N k) p ∷ no_such N g ∷ []) u
        ((no_such_passes (paths N k) p).holds l, ((no_such_passes N g).holds m, tt)),
  )

  pub whole_path_accepted : (p : ℕ) (room : ℕ) → room ≡ N → p < paths N k → Clear (whole_path_checks N k p room)
  whole_path_accepted p room e l = (
    (few_folds_passes N).holds h,
    (
      (wrong_length_passes room N).holds e,
      sets_clear N k (no_such (paths N k) p ∷ []) u ((no_such_passes (paths N k) p).holds l, tt),
    ),
  )

-- ---- zero rows

-- Joining gives 1 before it looks at the folds.
pub joining_no_rows :
    {A : Type 0} (N k p : ℕ) (returns : List Float) (room : ℕ) (a : A) →
    checked (joining_checks 0 N k p returns room) a ≡ refused 1 nothing
unfolding checked
joining_no_rows N k p returns room a = refl

-- The naive splitter gives 2, whatever N is.
pub naive_no_rows :
    {A : Type 0} (N s : ℕ) (room : ℕ) (a : A) → checked (naive_checks 0 N s room) a ≡ refused 2 (two N 0)
unfolding checked
naive_no_rows zero s room a = refl
naive_no_rows (suc zero) s room a = refl
naive_no_rows (suc (suc N)) s room a = rw (le-ltb (suc (suc N)) 2 (omega arith), lt-ltb 0 (suc (suc N)) (omega arith))
