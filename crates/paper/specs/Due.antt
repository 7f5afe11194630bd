-- Each refusal as a check: its number, what it carries, and when it is due (01, "Refusal numbers"). The chains of the calls,
-- which put them in 01's order, stand in Checks.
-- n is the number of rows, N that of folds, x the fraction, k the test folds of a split, m the minimum of training folds; a,
-- size and step are those of the rolling layout; room is the length of the lent list that the call writes.
use Rattle.std.specs.Prelude.{Bool, cond, not, ◌||◌, List, [], ◌∷◌, ◌++◌, ℕ, ◌*◌, leb, ltb, eqb, ℤ, length, get_or, Float}
use Rattle.std.specs.Float.{nan}
use Rattle.lists.specs.Base.{first, tally}
use Rattle.paper.specs.Refusals.{Outcome, Carried, done, refused, nothing, one, two, double}
use Rattle.paper.specs.Spans.{Table, good}
use Rattle.paper.specs.Width.{is_fraction}
use Rattle.paper.specs.Sets.{too_many, is_split}
use Rattle.paper.specs.Paths.{paths}
use Rattle.paper.specs.Joining.{finite}
use Rattle.paper.specs.Marks.{Rule, by_window, by_pair}

-- A refusal, what it carries, and whether it is due.
pub record Check : Type 0 where
  pub number : ℕ
  pub carried : Carried
  pub due : Bool

-- The first refusal that is due; the result where none is.
unfoldable pub checked : {A : Type 0} → List Check → A → Outcome A
checked [] a = done a
checked (c ∷ cs) a = cond c.due (refused c.number c.carried) (checked cs a)

-- Every refusal leaves lent memory as it was, except 17, which leaves the split's marks written.
abbrev pub lent : {A B : Type 0} → Outcome A → List B → List B → List B
lent (done a) old new = new
lent (refused number carried) old new = cond (eqb number 17) new old

abbrev pub bare : ℕ → Bool → Check
bare number due = record { number = number; carried = nothing; due = due }

-- The first place of a list of n that fails, as a refusal that carries what stands there.
abbrev pub first_due : ℕ → (ℕ → Bool) → ℕ → (ℕ → ℕ) → Check
first_due number fails n value =
    record { number = number; carried = one (value (first fails n)); due = ltb (first fails n) n }

-- 12: starts and ends differ in length.
abbrev pub lengths_differ : List ℤ → List ℤ → Check
lengths_differ starts ends = bare 12 (not (eqb (length starts) (length ends)))

-- 1: no rows.
abbrev pub no_rows : ℕ → Check
no_rows n = bare 1 (eqb n 0)

-- 10: rows above 1,048,576.
abbrev pub too_many_rows : ℕ → Check
too_many_rows n = bare 10 (ltb 1048576 n)

-- 2: N < 2 or N > n.
abbrev pub bad_folds : ℕ → ℕ → Check
bad_folds N n = record { number = 2; carried = two N n; due = ltb N 2 || ltb n N }

-- 2 of a call on numbers alone: N < 2, n carried as 0.
abbrev pub few_folds : ℕ → Check
few_folds N = record { number = 2; carried = two N 0; due = ltb N 2 }

-- 3: the fraction is not in [0,1).
abbrev pub bad_fraction : Float → Check
bad_fraction x = record { number = 3; carried = double x; due = not (is_fraction x) }

-- 4: some end before its start; carries the first such row.
abbrev pub bad_span : Table → Check
bad_span T = first_due 4 (λ i. not (good T (T.span i))) T.rows (λ i. i)

-- 5: a lent list, `room` long, is not n long.
abbrev pub wrong_length : ℕ → ℕ → Check
wrong_length room n = bare 5 (not (eqb room n))

-- 6: k = 0 or k ≥ N.
abbrev pub bad_test_folds : ℕ → ℕ → Check
bad_test_folds N k = bare 6 (eqb k 0 || leb N k)

-- 7: m = 0 or m ≥ N.
abbrev pub bad_minimum : ℕ → ℕ → Check
bad_minimum N m = bare 7 (eqb m 0 || leb N m)

-- 11: combinations of more than 64 folds.
abbrev pub too_many_folds : ℕ → Check
too_many_folds N = bare 11 (ltb 64 N)

-- 8: too many splits.
abbrev pub too_many_splits : ℕ → ℕ → Check
too_many_splits N k = bare 8 (too_many N k)

-- 15: a size or step is 0.
abbrev pub zero_size : ℕ → ℕ → ℕ → Check
zero_size a size step = bare 15 (eqb a 0 || eqb size 0 || eqb step 0)

-- 16: the minimum train size is at least n.
abbrev pub nothing_to_test : ℕ → ℕ → Check
nothing_to_test a n = bare 16 (leb n a)

-- 13: a number that is not below how many there are.
abbrev pub no_such : ℕ → ℕ → Check
no_such many number = bare 13 (leb many number)

-- 13 of a fold set: it is no split.
abbrev pub no_split : ℕ → ℕ → List ℕ → Check
no_split N k set = bare 13 (not (is_split N k set))

-- 18: the joined returns are not C(N-1,k-1)·n long.
abbrev pub returns_length : List Float → ℕ → ℕ → ℕ → Check
returns_length returns n N k = bare 18 (not (eqb (length returns) (paths N k * n)))

-- 19: a return that is not finite; carries the first place.
abbrev pub not_finite : List Float → Check
not_finite returns = first_due 19 (λ i. not (finite (get_or returns i nan))) (length returns) (λ i. i)

-- 9: an index that is no row; carries it, the training list searched first.
abbrev pub out_of_range : ℕ → List ℕ → List ℕ → Check
out_of_range n train test =
    first_due 9 (λ i. leb n (get_or (train ++ test) i 0)) (length (train ++ test)) (λ i. get_or (train ++ test) i 0)

-- 17: no row has mark 0. Only the pair rule refuses this.
abbrev pub empty_train : Rule → List ℕ → List Check
empty_train by_window marks = []
empty_train by_pair marks = bare 17 (eqb (tally 0 marks) 0) ∷ []
