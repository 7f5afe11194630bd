-- The chains of checks hold 01's numbers, in 01's order ("Refusal numbers"); and what a chain gives.
use mathlib.Core.Path.{◌≡◌, refl}
use mathlib.Core.Bool.{Bool, true, false, not, ◌&&◌, ◌||◌}
use mathlib.Core.List.{List, [], ◌∷◌, ◌++◌}
use Prim.{Unit, tt}
use Prim.Native.Nat.{ℕ}
use lib.Dec.{eqb}
use lib.IntN.{ℤ}
use lib.Ieee.{Float}
use borrow.Author.Tests.{not-true, ne_eqb}
use Rattle.lists.specs.AnyLaws.{both}
use Rattle.paper.specs.declared.settings.Settings.{Settings}
use Rattle.paper.specs.Marks.{by_window, by_pair}
use Rattle.paper.specs.Refusals.{Carried, done, refused}
use Rattle.paper.specs.Checks.{
  Check,
  checked,
  lent,
  kfold_checks,
  cpcv_checks,
  walk_forward_checks,
  rolling_checks,
  naive_checks,
  overlap_checks,
  train_times_checks,
  joining_checks,
  numbers_checks,
  split_checks,
  set_checks,
  path_checks,
  whole_path_checks,
}

-- ---- the order

abbrev numbers_of : List Check → List ℕ
numbers_of [] = []
numbers_of (c ∷ cs) = c.number ∷ numbers_of cs

-- 01's table, from top to bottom.
abbrev pub table_order : List ℕ
table_order = 12 ∷ 1 ∷ 10 ∷ 2 ∷ 3 ∷ 4 ∷ 5 ∷ 6 ∷ 7 ∷ 11 ∷ 8 ∷ 15 ∷ 16 ∷ 13 ∷ 18 ∷ 19 ∷ 9 ∷ 17 ∷ []

-- Is the first list part of the second, in the same order? A number may stand twice running.
abbrev pub part_of : List ℕ → List ℕ → Bool
part_of [] [] = true
part_of (a ∷ s) [] = false
part_of [] (b ∷ t) = true
part_of (a ∷ s) (b ∷ t) = eqb a b && part_of s (b ∷ t) || part_of (a ∷ s) t

-- A chain has these numbers, and they stand in the table's order.
abbrev Has : List Check → List ℕ → Type 0
Has chain numbers = (numbers_of chain ≡ numbers) × (part_of numbers table_order ≡ true)

-- Each call's numbers, whatever it is called with.
module _
    (starts ends test_starts test_ends : List ℤ) (st : Settings) (x : Float) (n N k m s p g a size step room : ℕ) (marks set train test : List ℕ)
    (returns : List Float)
  where
    pub record Chains : Type 0 where
      pub kfold-window : Has (kfold_checks by_window starts ends st s room marks) (12 ∷ 1 ∷ 10 ∷ 2 ∷ 3 ∷ 4 ∷ 5 ∷ 13 ∷ [])
      pub kfold_pair : Has (kfold_checks by_pair starts ends st s room marks) (12 ∷ 1 ∷ 10 ∷ 2 ∷ 3 ∷ 4 ∷ 5 ∷ 13 ∷ 17 ∷ [])
      pub cpcv-window :
          Has (cpcv_checks by_window starts ends st k s room marks) (12 ∷ 1 ∷ 10 ∷ 2 ∷ 3 ∷ 4 ∷ 5 ∷ 6 ∷ 11 ∷ 8 ∷ 13 ∷ [])
      pub cpcv_pair :
          Has (cpcv_checks by_pair starts ends st k s room marks) (12 ∷ 1 ∷ 10 ∷ 2 ∷ 3 ∷ 4 ∷ 5 ∷ 6 ∷ 11 ∷ 8 ∷ 13 ∷ 17 ∷ [])
      pub walk_forward_lem : Has (walk_forward_checks starts ends st m s room) (12 ∷ 1 ∷ 10 ∷ 2 ∷ 3 ∷ 4 ∷ 5 ∷ 7 ∷ 13 ∷ [])
      pub rolling :
          Has (rolling_checks starts ends x a size step s room marks) (12 ∷ 1 ∷ 10 ∷ 3 ∷ 4 ∷ 5 ∷ 15 ∷ 16 ∷ 13 ∷ 17 ∷ [])
      pub naive : Has (naive_checks n N s room) (2 ∷ 5 ∷ 13 ∷ [])
      pub overlap_count_lem : Has (overlap_checks starts ends train test) (12 ∷ 9 ∷ [])
      pub train_times : Has (train_times_checks starts ends test_starts test_ends room) (12 ∷ 12 ∷ 5 ∷ [])
      pub joining : Has (joining_checks n N k p returns room) (1 ∷ 10 ∷ 2 ∷ 5 ∷ 6 ∷ 11 ∷ 8 ∷ 13 ∷ 18 ∷ 19 ∷ [])
      pub numbers : Has (numbers_checks N k) (2 ∷ 6 ∷ 11 ∷ 8 ∷ [])
      pub split : Has (split_checks N k s) (2 ∷ 6 ∷ 11 ∷ 8 ∷ 13 ∷ [])
      pub fold_set : Has (set_checks N k set) (2 ∷ 6 ∷ 11 ∷ 8 ∷ 13 ∷ [])
      pub path : Has (path_checks N k p g) (2 ∷ 6 ∷ 11 ∷ 8 ∷ 13 ∷ 13 ∷ [])
      pub whole_path : Has (whole_path_checks N k p room) (2 ∷ 5 ∷ 6 ∷ 11 ∷ 8 ∷ 13 ∷ [])

    pub chains : Chains
    chains =
        record {
          kfold-window = (refl, refl);
          kfold_pair = (refl, refl);
          cpcv-window = (refl, refl);
          cpcv_pair = (refl, refl);
          walk_forward_lem = (refl, refl);
          rolling = (refl, refl);
          naive = (refl, refl);
          overlap_count_lem = (refl, refl);
          train_times = (refl, refl);
          joining = (refl, refl);
          numbers = (refl, refl);
          split = (refl, refl);
          fold_set = (refl, refl);
          path = (refl, refl);
          whole_path = (refl, refl);
        }

-- ---- what a chain gives

-- No check of the chain is due.
abbrev pub clear : List Check → Bool
clear [] = true
clear (c ∷ cs) = not c.due && clear cs

-- The same, check by check.
abbrev pub Clear : List Check → Type 0
Clear [] = Unit {0}
Clear (c ∷ cs) = (c.due ≡ false) × Clear cs

pub clear_each : (cs : List Check) → clear cs ≡ true → Clear cs
clear_each [] h = tt
clear_each (c ∷ cs) h = let t = both {a = not c.due} h in (not-true c.due t.0, clear_each cs t.1)

-- The result, where none is due.
pub checked-clear : {A : Type 0} (cs : List Check) (a : A) → clear cs ≡ true → checked cs a ≡ done a
unfolding checked
checked-clear [] a h = refl
checked-clear (c ∷ cs) a h =
    let t = both {a = not c.due} h in
    rw (not-true c.due t.0) (checked-clear cs a t.1)

-- The first that is due, where those before it are not.
pub checked_first :
    {A : Type 0} (before : List Check) (c : Check) (behind : List Check) (a : A) → clear before ≡ true → c.due ≡ true →
    checked (before ++ c ∷ behind) a ≡ refused c.number c.carried
unfolding checked
checked_first [] c behind a h e = rw e
checked_first (b ∷ before) c behind a h e =
    let t = both {a = not b.due} h in
    rw (not-true b.due t.0) (checked_first before c behind a t.1 e)

-- A result leaves its list written, and a refusal lent memory as it was; 17 leaves the marks written.
pub lent_done : (A : Type 0) {B : Type 0} (a : A) (old new : List B) → lent (done a) old new ≡ new
lent_done A a old new = refl

pub lent_kept : (A : Type 0) {B : Type 0} (number : ℕ) (carried : Carried) (old new : List B) → (number ≡ 17 → ⊥) → lent {A = A} (refused number carried) old new ≡ old
lent_kept A number carried old new h = rw (ne_eqb number 17 h)

pub lent_written : (A : Type 0) {B : Type 0} (carried : Carried) (old new : List B) → lent {A = A} (refused 17 carried) old new ≡ new
lent_written A carried old new = refl
