-- The examples that 01 marks with ●, as one table: the definitions compute each of them ("Examples on the edges").
use mathlib.Core.Path.{◌≡◌, refl}
use mathlib.Core.List.{List, [], ◌∷◌}
use Prim.Native.Nat.{ℕ}
use lib.IntN.{pos}
use lib.Ieee.{binary64, of_bits}
use Rattle.lists.specs.Base.{tab, count, any, tally, first_from, join_from}
use Rattle.paper.specs.Spans.{Table, table, reaches, later}
use Rattle.paper.specs.Folds.{even_borders, even_border, folds}
use Rattle.paper.specs.Blocks.{begins}
use Rattle.paper.specs.Marks.{Rule, by_window, by_pair, mark_of, marks_of}
use Rattle.paper.specs.Layouts.{kfold, cpcv}
use Rattle.paper.specs.Overlaps.{overlap_count}
use Rattle.paper.specs.Sets.{listing, each}
use Rattle.paper.specs.Paths.{path_of, holds, tests_of}
use Rattle.paper.specs.Width.{width_of}

-- The recording of the report's example: (0,5) (10,20) (20,25) (30,35) (40,45) (50,55).
abbrev six : Table
six =
    table (pos 0 ∷ pos 10 ∷ pos 20 ∷ pos 30 ∷ pos 40 ∷ pos 50 ∷ [])
    (pos 5 ∷ pos 20 ∷ pos 25 ∷ pos 35 ∷ pos 45 ∷ pos 55 ∷ [])

-- Its splits: one fold of three tested, fraction 0.1.
abbrev six_marks : ℕ → List ℕ
six_marks s = marks_of by_window six (cpcv (even_borders 6 3) 3 1 s (width_of (of_bits binary64 0x3FB999999999999A) 6))

-- Two tables whose starts decrease: (10,12) (0,2) (20,21) (1,3), and (0,1) (10,11) (5,6) (20,21).
abbrev pub late : Table
late = table (pos 10 ∷ pos 0 ∷ pos 20 ∷ pos 1 ∷ []) (pos 12 ∷ pos 2 ∷ pos 21 ∷ pos 3 ∷ [])

abbrev pub between : Table
between = table (pos 0 ∷ pos 10 ∷ pos 5 ∷ pos 20 ∷ []) (pos 1 ∷ pos 11 ∷ pos 6 ∷ pos 21 ∷ [])

-- Their first split of two folds, fraction 0, by either rule.
abbrev half_marks : Rule → Table → List ℕ
half_marks r T = marks_of r T (kfold (even_borders 4 2) 0 (width_of (of_bits binary64 0) 4))

pub record Examples : Type 0 where
  -- Folds: 0..4, 4..7, 7..10 and 0..1, 1..2.
  pub ten_in_three : even_borders 10 3 ≡ 0 ∷ 4 ∷ 7 ∷ 10 ∷ []
  pub two_in_two : even_borders 2 2 ≡ 0 ∷ 1 ∷ 2 ∷ []
  -- Widths: 0.07 and 0.01 of 100, −0.0, the smallest positive double of 2, the largest double below 1 of 5.
  pub width_007 : width_of (of_bits binary64 0x3FB1EB851EB851EC) 100 ≡ 8
  pub width_001 : width_of (of_bits binary64 0x3F847AE147AE147B) 100 ≡ 1
  pub width_minus_zero : width_of (of_bits binary64 0x8000000000000000) 100 ≡ 0
  pub width_smallest : width_of (of_bits binary64 1) 2 ≡ 1
  pub width_below_one : width_of (of_bits binary64 0x3FEFFFFFFFFFFFFF) 5 ≡ 5
  -- The three S lines: TTPERR, RPTTER, RRRRTT.
  pub line_0 : six_marks 0 ≡ 1 ∷ 1 ∷ 2 ∷ 3 ∷ 0 ∷ 0 ∷ []
  pub line_1 : six_marks 1 ≡ 0 ∷ 2 ∷ 1 ∷ 1 ∷ 3 ∷ 0 ∷ []
  pub line_2 : six_marks 2 ≡ 0 ∷ 0 ∷ 0 ∷ 0 ∷ 1 ∷ 1 ∷ []
  -- N = 4, k = 2: the listing, and the three paths.
  pub listed :
      listing 0 4 2
      ≡ (0 ∷ 1 ∷ []) ∷ (0 ∷ 2 ∷ []) ∷ (0 ∷ 3 ∷ []) ∷ (1 ∷ 2 ∷ []) ∷ (1 ∷ 3 ∷ []) ∷ (2 ∷ 3 ∷ []) ∷ []
  pub path_0 : path_of 4 2 0 ≡ 0 ∷ 0 ∷ 1 ∷ 2 ∷ []
  pub path_1 : path_of 4 2 1 ≡ 1 ∷ 3 ∷ 3 ∷ 4 ∷ []
  pub path_2 : path_of 4 2 2 ≡ 2 ∷ 4 ∷ 5 ∷ 5 ∷ []
  -- The window begins at the first row's start: row 3 slips through and leaks. The pair rule purges it.
  pub late-window : half_marks by_window late ≡ 1 ∷ 1 ∷ 0 ∷ 0 ∷ []
  pub late_leak : overlap_count late (2 ∷ 3 ∷ []) (0 ∷ 1 ∷ []) ≡ 1
  pub late_pair : half_marks by_pair late ≡ 1 ∷ 1 ∷ 0 ∷ 2 ∷ []
  -- Row 2 lies between the two test rows: the window holds it, no test row meets it.
  pub between-window : half_marks by_window between ≡ 1 ∷ 1 ∷ 2 ∷ 0 ∷ []
  pub between_pair : half_marks by_pair between ≡ 1 ∷ 1 ∷ 0 ∷ 0 ∷ []

pub examples : Examples
unfolding width_of of_bits tab count any tally first_from join_from reaches later even_border folds begins mark_of listing each holds tests_of
examples =
    record {
      ten_in_three = refl;
      two_in_two = refl;
      width_007 = refl;
      width_001 = refl;
      width_minus_zero = refl;
      width_smallest = refl;
      width_below_one = refl;
      line_0 = refl;
      line_1 = refl;
      line_2 = refl;
      listed = refl;
      path_0 = refl;
      path_1 = refl;
      path_2 = refl;
      late-window = refl;
      late_leak = refl;
      late_pair = refl;
      between-window = refl;
      between_pair = refl;
    }
