-- From lists of ranges to each layout.
use mathlib.Core.Path.{◌≡◌, refl, sym, ap, ap₂, ◌∙◌}
use mathlib.Core.List.{List, [], ◌∷◌}
use Prim.Native.Nat.{ℕ, zero, suc, ◌+◌, ◌-◌, ◌≤◌, ◌<◌, min}
use native.Mathlib.Omega.{arith}
use lib.Dec.{leb}
use lib.ListN.{get_or, take}
use lib.Seq.{get_or-take}
use borrow.Author.Tests.{lt-leb}
use Rattle.paper.specs.declared.answers.Counts.{Counts}
use Rattle.paper.specs.declared.numbers.FoldNumber.{FoldNumber}
use Rattle.paper.specs.declared.numbers.FoldSet.{FoldSet}
use Rattle.paper.specs.Spans.{Table}
use Rattle.paper.specs.Folds.{Rows, within, border, even_border, even_borders}
use Rattle.paper.specs.Marks.{Rule, marks_of}
use Rattle.paper.specs.Layouts.{cross, forward, kfold}
use Rattle.paper.specs.Handed.{numbers, list_of}
use Rattle.paper.proofs.FoldsMeaning.{border_even, border-le, even_borders_lem}
use Rattle.paper.proofs.ListingMeaning.{is_split_parts}
use Rattle.laws.specs.Ranges.{ranged, Ranges, ranged_ext, ranges_ext}
use Rattle.laws.specs.Worker.{ranged_split}
use Rattle.laws.specs.Below.{marks_of_below, forward_cut}
use Rattle.laws.specs.Chosen.{fold_from, fold_to, within-ranged, within_ranges, is_split_below, folds_ranges, cross-folds}
use Rattle.marks.specs.Accepted.{Written}
use Rattle.layouts.specs.Tested.{one_range, forward_fold, cross_set, FoldIn, SetIn, RangesOf}

-- The same list under another name.
pub rewritten :
    (due other marks : List ℕ) (counts : Counts) → due ≡ other → Written due marks counts → Written other marks counts
rewritten due other marks counts e w = rw (sym e) w

-- ---- one range

module _ (F G : ℕ → ℕ) (b e : ℕ) (x : F 0 ≡ b) (y : G 0 ≡ e) where
  first_only : (f : ℕ → ℕ) (v : ℕ) → f 0 ≡ v → (j : ℕ) → j < 1 → f j ≡ v
  first_only f v p j l = let z : j ≡ 0 = omega arith in rw z p

  pub one_ranges : (n : ℕ) → b < e → e ≤ n → Ranges F G 1 n
  one_ranges n h k = ranges_ext (within_ranges b e n h k) (first_only F b x) (first_only G e y)

  pub one_marks :
      (r : Rule) (T : Table) (used width : ℕ) → marks_of r T (ranged_split F G 1 (leb used) width) ≡ marks_of r T (one_range b e used width)
  one_marks r T used width =
      ap (λ t. marks_of r T (record { test = t; unused = leb used; width = width }))
      (ranged_ext F G (λ j. b) (λ j. e) 1 (first_only F b x) (first_only G e y) ∙ sym (within-ranged b e))

-- ---- all rows take part

pub all_used :
    (r : Rule) (T : Table) (t : Rows) (width : ℕ) →
    marks_of r T (record { test = t; unused = leb T.rows; width = width }) ≡ marks_of r T (cross t width)
all_used r T t width =
    marks_of_below T (record { test = t; unused = leb T.rows; width = width }) (cross t width)
    (record { test = λ i l. refl; unused = λ i l. lt-leb T.rows i l; width = refl }) r

-- ---- one fold

module _ (n N f : ℕ) (h : FoldIn n N f) where
  pub fold-fits : (even_border n N f < even_border n N (f + 1)) × (even_border n N (f + 1) ≤ n)
  fold-fits =
      let w = even_borders_lem n N (omega (arith, h.below)) h.enough in (
        rw (border_even n N f (omega (arith, h.below)), border_even n N (f + 1) (omega (arith, h.below))) at (w.rise f h.below),
        rw (border_even n N (f + 1) (omega (arith, h.below)), w.end) at (border-le w (f + 1) N (omega (arith, h.below)) (omega arith)),
      )

  module _ (b e : ℕ) (x : b ≡ even_border n N f) (y : e ≡ even_border n N (f + 1)) where
    first_border : b ≡ border (even_borders n N) f
    first_border = x ∙ sym (border_even n N f (omega (arith, h.below)))

    past_border : e ≡ border (even_borders n N) (f + 1)
    past_border = y ∙ sym (border_even n N (f + 1) (omega (arith, h.below)))

    pub kfold_marks_lem :
        (r : Rule) (T : Table) (width : ℕ) → T.rows ≡ n → marks_of r T (one_range b e n width) ≡ marks_of r T (kfold (even_borders n N) f width)
    kfold_marks_lem r T width z =
        rw (← z) (all_used r T (within b e) width) ∙ ap₂ (λ u v. marks_of r T (cross (within u v) width)) first_border past_border

    pub forward-marks : (r : Rule) (T : Table) → marks_of r T (one_range b e e 0) ≡ marks_of r T (forward_fold n N f)
    forward-marks r T = ap₂ (λ u v. marks_of r T (forward u v)) first_border past_border

-- ---- rolling

pub rolling_cut :
    (r : Rule) (T : Table) (b size e : ℕ) → e ≡ b + min size (T.rows - b) → b < T.rows →
    marks_of r T (forward b e) ≡ marks_of r T (forward b (b + size))
rolling_cut r T b size e h k =
    let z : e ≡ min (b + size) T.rows = omega arith in
    ap (λ v. marks_of r T (forward b v)) z ∙ sym (forward_cut r T b (b + size))

-- ---- folds of a set

-- Fold j of a set, as code reads it from the places that are filled.
abbrev pub fold_at : FoldSet → ℕ → ℕ
fold_at set j = (get_or (take set.count set.folds) j (record { 0 = 0 })).0

numbers_at : (l : List FoldNumber) (j : ℕ) → get_or (numbers l) j 0 ≡ (get_or l j (record { 0 = 0 })).0
numbers_at [] j = refl
numbers_at (f ∷ l) zero = refl
numbers_at (f ∷ l) (suc j) = numbers_at l j

module _ {n N : ℕ} {set : FoldSet} (s : SetIn n N set) (j : ℕ) (l : j < set.count) where
  listed : get_or (list_of set) j 0 ≡ fold_at set j
  listed =
      let here = get_or-take set.count set.folds j (record { 0 = 0 }) l in
      rw get_or-take (numbers_at set.folds j) ∙ sym (ap (λ f. f.0) here)

  pub set_below : fold_at set j < N
  set_below = rw listed at (is_split_below N set.count (list_of set) s.split j l)

  pub set_begin : (v : ℕ) → v ≡ even_border n N (fold_at set j) → v ≡ fold_from (even_borders n N) (list_of set) j
  set_begin v e = e ∙ sym (rw listed (border_even n N (fold_at set j) (omega (arith, set_below))))

  pub set_end : (v : ℕ) → v ≡ even_border n N (fold_at set j + 1) → v ≡ fold_to (even_borders n N) (list_of set) j
  set_end v e = e ∙ sym (rw listed (border_even n N (fold_at set j + 1) (omega (arith, set_below))))

module _ {n N : ℕ} {set : FoldSet} {F G : ℕ → ℕ} (s : SetIn n N set) (w : RangesOf n N set F G set.count) where
  pub set_ranges : Ranges F G set.count n
  set_ranges =
      ranges_ext (folds_ranges (even_borders_lem n N s.some s.enough) (list_of set) set.count s.split) w.begin w.end

  pub set_marks :
      (r : Rule) (T : Table) (width : ℕ) → T.rows ≡ n →
      marks_of r T (ranged_split F G set.count (leb n) width) ≡ marks_of r T (cross_set n N set width)
  set_marks r T width h =
      let bs = even_borders n N in
      let fs = list_of set in
      rw (← h) (all_used r T (ranged F G set.count) width)
      ∙ ap (λ t. marks_of r T (cross t width))
      (ranged_ext F G (fold_from bs fs) (fold_to bs fs) set.count w.begin w.end)
      ∙ ap (marks_of r T) (sym (cross-folds bs fs set.count width (is_split_parts N set.count fs s.split).2))
