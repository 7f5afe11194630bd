-- When each refusal is due (01, "Refusal numbers"), as facts on numbers: each check passes exactly when its fact holds, and a
-- refusal that carries a place carries the first that fails. The last section has what each carries.
use mathlib.Core.Path.{◌≡◌, refl, ap}
use mathlib.Core.Bool.{Bool, true, false, not, ◌||◌}
use mathlib.Core.List.{List, [], ◌∷◌, ◌++◌}
use Prim.Native.Nat.{ℕ, ◌-◌, ◌*◌, ◌≤◌, ◌<◌, min}
use native.Mathlib.Omega.{arith}
use lib.Dec.{leb, ltb, eqb}
use lib.IntN.{ℤ, pos}
use lib.ListN.{length, get_or}
use lib.Ieee.{Float, nan, inf, fin}
use borrow.Author.Tests.{ltb-true, ltb-false, leb-false, eqb-true, eqb-false, le-ltb, lt-leb, eq-eqb, ne_eqb, not-false}
use Rattle.lists.specs.Base.{first_from, first, tally}
use Rattle.lists.specs.AnyLaws.{never}
use Rattle.lists.specs.FirstLaws.{first_is, first_before, first_from_none}
use Rattle.paper.specs.declared.refusal.Refusal.{Refusal}
use Rattle.paper.specs.declared.refusal.Refusal.TheVariants.{
  NoRows,
  InvalidSplits,
  InvalidEmbargo,
  WrongLength,
  InvalidTestSplits,
  InvalidMinTrainFolds,
  TooManySplits,
  TooManyRows,
  TooManyFolds,
  LengthsDiffer,
  NoSuchNumber,
  ZeroSize,
  NothingToTest,
  EmptyTrain,
  ReturnsLength,
}
use Rattle.paper.specs.Refusals.{one, number_of, carried_by}
use Rattle.paper.specs.Spans.{Table, table, reaches, good}
use Rattle.paper.specs.Width.{is_fraction}
use Rattle.paper.specs.Sets.{choose, too_many, is_split}
use Rattle.paper.specs.Paths.{paths}
use Rattle.paper.specs.Joining.{finite}
use Rattle.paper.specs.Marks.{by_pair}
use Rattle.paper.specs.Checks.{
  Check,
  bare,
  first_due,
  lengths_differ,
  no_rows,
  too_many_rows,
  bad_folds,
  few_folds,
  bad_fraction,
  bad_span,
  wrong_length,
  bad_test_folds,
  bad_minimum,
  too_many_folds,
  too_many_splits,
  zero_size,
  nothing_to_test,
  no_such,
  no_split,
  returns_length,
  not_finite,
  out_of_range,
  empty_train,
}

-- The refusal is not given exactly when P holds.
pub record Passes (c : Check) (P : Type 0) : Type 0 where
  pub shows : c.due ≡ false → P
  pub holds : P → c.due ≡ false

-- ---- tests of numbers

neither : (a b : Bool) → a || b ≡ false → (a ≡ false) × (b ≡ false)
neither true b h = never {b = true} refl h
neither false b h = (refl, h)

-- a < b, refused where it fails.
below : (number a b : ℕ) → Passes (bare number (leb b a)) (a < b)
below number a b = record { shows = leb-false b a; holds = lt-leb b a }

-- a ≤ b, refused where it fails.
at_most : (number a b : ℕ) → Passes (bare number (ltb b a)) (a ≤ b)
at_most number a b = record { shows = ltb-false b a; holds = le-ltb b a }

same : (number a b : ℕ) → Passes (bare number (not (eqb a b))) (a ≡ b)
same number a b =
    record { shows = λ h. eqb-true a b (not-false (eqb a b) h); holds = λ e. ap not (eq-eqb a b e) }

some : (a : ℕ) → eqb a 0 ≡ false → 1 ≤ a
some a h = omega (arith, eqb-false a 0 h)

none_zero : (a : ℕ) → 1 ≤ a → eqb a 0 ≡ false
none_zero a h = ne_eqb a 0 (omega arith)

true_for : (number : ℕ) (b : Bool) → Passes (bare number (not b)) (b ≡ true)
true_for number b = record { shows = not-false b; holds = λ h. ap not h }

-- ---- the checks

-- 12
pub lengths_differ_passes : (starts ends : List ℤ) → Passes (lengths_differ starts ends) (length starts ≡ length ends)
lengths_differ_passes starts ends = same 12 (length starts) (length ends)

-- 1
pub no_rows_passes : (n : ℕ) → Passes (no_rows n) (1 ≤ n)
no_rows_passes n = record { shows = some n; holds = none_zero n }

-- 10
pub too_many_rows_passes : (n : ℕ) → Passes (too_many_rows n) (n ≤ 1048576)
too_many_rows_passes n = at_most 10 n 1048576

-- 2
pub bad_folds_passes : (N n : ℕ) → Passes (bad_folds N n) ((2 ≤ N) × (N ≤ n))
bad_folds_passes N n =
    record {
      shows = λ h. let t = neither (ltb N 2) (ltb n N) h in (ltb-false N 2 t.0, ltb-false n N t.1);
      holds = λ w. rw (le-ltb N 2 w.0, le-ltb n N w.1);
    }

pub few_folds_passes : (N : ℕ) → Passes (few_folds N) (2 ≤ N)
few_folds_passes N = record { shows = ltb-false N 2; holds = le-ltb N 2 }

-- 3
pub bad_fraction_passes : (x : Float) → Passes (bad_fraction x) (is_fraction x ≡ true)
bad_fraction_passes x = record { shows = not-false (is_fraction x); holds = λ h. ap not h }

-- 5
pub wrong_length_passes : (room n : ℕ) → Passes (wrong_length room n) (room ≡ n)
wrong_length_passes room n = same 5 room n

-- 6 and 7
between : (number N k : ℕ) → Passes (bare number (eqb k 0 || leb N k)) ((1 ≤ k) × (k < N))
between number N k =
    record {
      shows = λ h. let t = neither (eqb k 0) (leb N k) h in (some k t.0, leb-false N k t.1);
      holds = λ w. rw (none_zero k w.0, lt-leb N k w.1);
    }

pub bad_test_folds_passes : (N k : ℕ) → Passes (bad_test_folds N k) ((1 ≤ k) × (k < N))
bad_test_folds_passes N k = between 6 N k

pub bad_minimum_passes : (N m : ℕ) → Passes (bad_minimum N m) ((1 ≤ m) × (m < N))
bad_minimum_passes N m = between 7 N m

-- 11
pub too_many_folds_passes : (N : ℕ) → Passes (too_many_folds N) (N ≤ 64)
too_many_folds_passes N = at_most 11 N 64

-- 8; its edge is `too_many_edge` of Rows.
pub too_many_splits_passes : (N k : ℕ) → Passes (too_many_splits N k) (too_many N k ≡ false)
too_many_splits_passes N k = record { shows = λ h. h; holds = λ h. h }

pub too_many_splits-fits :
    (N k : ℕ) → Passes (too_many_splits N k) (choose N (min k (N - k)) * min k (N - k) ≤ 18446744073709551615)
too_many_splits-fits N k = at_most 8 (choose N (min k (N - k)) * min k (N - k)) 18446744073709551615

-- 15
pub zero_size_passes : (a size step : ℕ) → Passes (zero_size a size step) ((1 ≤ a) × (1 ≤ size) × (1 ≤ step))
zero_size_passes a size step =
    record {
      shows = λ h.
          let t = neither (eqb a 0 || eqb size 0) (eqb step 0) h in
          let u = neither (eqb a 0) (eqb size 0) t.0 in
          (some a u.0, some size u.1, some step t.1);
      holds = λ w. rw (none_zero a w.0, none_zero size w.1, none_zero step w.2);
    }

-- 16
pub nothing_to_test_passes : (a n : ℕ) → Passes (nothing_to_test a n) (a < n)
nothing_to_test_passes a n = below 16 a n

-- 13
pub no_such_passes : (many number : ℕ) → Passes (no_such many number) (number < many)
no_such_passes many number = below 13 number many

pub no_split_passes : (N k : ℕ) (set : List ℕ) → Passes (no_split N k set) (is_split N k set ≡ true)
no_split_passes N k set = true_for 13 (is_split N k set)

-- 18
pub returns_length_passes : (returns : List Float) (n N k : ℕ) → Passes (returns_length returns n N k) (length returns ≡ paths N k * n)
returns_length_passes returns n N k = same 18 (length returns) (paths N k * n)

-- 17
pub empty_train_passes : (marks : List ℕ) → Passes (bare 17 (eqb (tally 0 marks) 0)) (1 ≤ tally 0 marks)
empty_train_passes marks = record { shows = some (tally 0 marks); holds = none_zero (tally 0 marks) }

-- ---- the first that fails: 4, 19 and 9

module _ (number : ℕ) (fails : ℕ → Bool) (n : ℕ) (value : ℕ → ℕ) where
  pub first_due_passes : Passes (first_due number fails n value) ((i : ℕ) → i < n → fails i ≡ false)
  first_due_passes =
      record {
        shows = λ h i l. first_before fails n i (omega (arith, ltb-false (first fails n) n h));
        holds = λ all.
            le-ltb (first fails n) n (omega (arith, first_from_none fails 0 n (λ j g l. all j (omega arith))));
      }

  -- Where it is due, it carries what stands at the first place that fails.
  pub first_due_first :
      (first_due number fails n value).due ≡ true →
      (i : ℕ) × (i < n) × (fails i ≡ true) × ((j : ℕ) → j < i → fails j ≡ false) × ((first_due number fails n value).carried ≡ one (value i))
  first_due_first h =
      let l : first fails n < n = ltb-true (first fails n) n h in
      (first fails n, l, first_is fails n l, first_before fails n, refl)

pub bad_span_passes : (T : Table) → Passes (bad_span T) ((i : ℕ) → i < T.rows → good T (T.span i) ≡ true)
bad_span_passes T =
    let w = first_due_passes 4 (λ i. not (good T (T.span i))) T.rows (λ i. i) in
    record {
      shows = λ h i l. not-false (good T (T.span i)) (w.shows h i l);
      holds = λ all. w.holds (λ i l. ap not (all i l));
    }

pub not_finite_passes : (returns : List Float) → Passes (not_finite returns) ((i : ℕ) → i < length returns → finite (get_or returns i nan) ≡ true)
not_finite_passes returns =
    let w = first_due_passes 19 (λ i. not (finite (get_or returns i nan))) (length returns) (λ i. i) in
    record {
      shows = λ h i l. not-false (finite (get_or returns i nan)) (w.shows h i l);
      holds = λ all. w.holds (λ i l. ap not (all i l));
    }

pub out_of_range_passes :
    (n : ℕ) (train test : List ℕ) →
    Passes (out_of_range n train test) ((i : ℕ) → i < length (train ++ test) → get_or (train ++ test) i 0 < n)
out_of_range_passes n train test =
    let w = first_due_passes 9 (λ i. leb n (get_or (train ++ test) i 0)) (length (train ++ test)) (λ i. get_or (train ++ test) i 0) in
    record {
      shows = λ h i l. leb-false n (get_or (train ++ test) i 0) (w.shows h i l);
      holds = λ all. w.holds (λ i l. lt-leb n (get_or (train ++ test) i 0) (all i l));
    }

-- ---- what is carried

-- The refusal has the check's number and carries what the check carries.
abbrev Says : Refusal → Check → Type 0
Says r c = (number_of r ≡ c.number) × (carried_by r ≡ c.carried)

-- Each check, whatever it is made with, has its refusal: 2 carries N and n, or N and 0, 3 the fraction, most nothing.
module _
    (starts ends : List ℤ) (n N k m number a size step room : ℕ) (x : Float) (set marks : List ℕ) (returns : List Float)
  where
    pub record Carries : Type 0 where
      pub lengths_differ_lem : Says LengthsDiffer (lengths_differ starts ends)
      pub no_rows_lem : Says NoRows (no_rows n)
      pub too_many_rows_lem : Says TooManyRows (too_many_rows n)
      pub bad_folds_lem : Says (InvalidSplits N n) (bad_folds N n)
      pub few_folds_lem : Says (InvalidSplits N 0) (few_folds N)
      pub bad_fraction_lem : Says (InvalidEmbargo x) (bad_fraction x)
      pub wrong_length_lem : Says WrongLength (wrong_length room n)
      pub bad_test_folds_lem : Says InvalidTestSplits (bad_test_folds N k)
      pub bad_minimum_lem : Says InvalidMinTrainFolds (bad_minimum N m)
      pub too_many_folds_lem : Says TooManyFolds (too_many_folds N)
      pub too_many_splits_lem : Says TooManySplits (too_many_splits N k)
      pub zero_size_lem : Says ZeroSize (zero_size a size step)
      pub nothing_to_test_lem : Says NothingToTest (nothing_to_test a n)
      pub no_such_lem : Says NoSuchNumber (no_such n number)
      pub no_split_lem : Says NoSuchNumber (no_split N k set)
      pub returns_length_lem : Says ReturnsLength (returns_length returns n N k)
      pub empty_train_lem : empty_train by_pair marks ≡ bare 17 (eqb (tally 0 marks) 0) ∷ []
      pub empty_train_says : Says EmptyTrain (bare 17 (eqb (tally 0 marks) 0))

    pub carries : Carries
    carries =
        record {
          lengths_differ_lem = (refl, refl);
          no_rows_lem = (refl, refl);
          too_many_rows_lem = (refl, refl);
          bad_folds_lem = (refl, refl);
          few_folds_lem = (refl, refl);
          bad_fraction_lem = (refl, refl);
          wrong_length_lem = (refl, refl);
          bad_test_folds_lem = (refl, refl);
          bad_minimum_lem = (refl, refl);
          too_many_folds_lem = (refl, refl);
          too_many_splits_lem = (refl, refl);
          zero_size_lem = (refl, refl);
          nothing_to_test_lem = (refl, refl);
          no_such_lem = (refl, refl);
          no_split_lem = (refl, refl);
          returns_length_lem = (refl, refl);
          empty_train_lem = refl;
          empty_train_says = (refl, refl);
        }

-- 4, 19 and 9 with two that fail each. 9 carries the index and not its place, and searches the training list first.
pub record CarriesFirst : Type 0 where
  pub row : (bad_span (table (pos 0 ∷ pos 5 ∷ pos 7 ∷ []) (pos 0 ∷ pos 4 ∷ pos 6 ∷ []))).carried ≡ one 1
  pub place : (not_finite (fin false 0 (pos 0) ∷ inf false ∷ nan ∷ [])).carried ≡ one 1
  pub training_index : (out_of_range 3 (2 ∷ 4 ∷ 5 ∷ []) (9 ∷ [])).carried ≡ one 4
  pub test_index : (out_of_range 3 (2 ∷ []) (1 ∷ 9 ∷ [])).carried ≡ one 9

pub carries_first : CarriesFirst
unfolding first_from reaches
carries_first = record { row = refl; place = refl; training_index = refl; test_index = refl }
