-- The counts of plain marks: as many tested as the fold has rows, and all others train.
use mathlib.Core.Path.{◌≡◌, refl, sym, ap, ap₂, ◌∙◌}
use mathlib.Core.Bool.{Bool, true, false, not}
use Prim.Native.Nat.{ℕ, ◌+◌, ◌-◌, ◌≤◌, ◌<◌}
use native.Mathlib.Omega.{arith}
use lib.Dec.{eqb}
use Rattle.lists.specs.Base.{tab, bit, tally}
use Rattle.lists.specs.CountLaws.{tally-tab, count_ext, count_none, count-not}
use Rattle.lists.specs.TabLaws.{tab_ext}
use Rattle.paper.specs.Folds.{within, even_border}
use Rattle.paper.specs.Marks.{counts_of}
use Rattle.paper.proofs.FoldsMeaning.{count-within, border_even}
use Rattle.paper.specs.Overlaps.{naive_marks}
use Rattle.std.specs.Prelude.{Some}
use Rattle.folds.specs.declared.RowRange.{RowRange}
use Rattle.folds.specs.Found.{bounds_of}
use Rattle.folds.proofs.BoundsLaws.{bounds_rows, bounds_order, bounds_within}
use Rattle.naive.specs.NaiveIn.{NaiveIn}

bit_one : (b : Bool) → eqb (bit b) 1 ≡ b
bit_one true = refl
bit_one false = refl

bit_zero : (b : Bool) → eqb (bit b) 0 ≡ not b
bit_zero true = refl
bit_zero false = refl

bit_other : (b : Bool) (v : ℕ) → eqb 0 v ≡ false → eqb 1 v ≡ false → eqb (bit b) v ≡ false
bit_other true v g h = h
bit_other false v g h = g

module _ (b e n : ℕ) (h : b ≤ e) (k : e ≤ n) where
  abbrev marks : ℕ → ℕ
  marks i = bit (within b e i)

  tested : tally 1 (tab marks n) ≡ e - b
  tested =
      tally-tab 1 marks n ∙ count_ext _ (within b e) n (λ i l. bit_one (within b e i)) ∙ count-within b e n ∙ omega arith

  trained : tally 0 (tab marks n) ≡ n - (e - b)
  trained =
      tally-tab 0 marks n ∙ count_ext _ (λ i. not (within b e i)) n (λ i l. bit_zero (within b e i)) ∙ count-not (within b e) n
      ∙ ap (λ c. n - c) (count-within b e n) ∙ omega arith

  none : (v : ℕ) → eqb 0 v ≡ false → eqb 1 v ≡ false → tally v (tab marks n) ≡ 0
  none v x y = tally-tab v marks n ∙ count_none _ n (λ i l. bit_other (within b e i) v x y)

  pub plain_counts : record { train = n - (e - b); test = e - b; purged = 0; embargoed = 0 } ≡ counts_of (tab marks n)
  plain_counts = rw (tested, trained, none 2 refl refl, none 3 refl refl, none 4 refl refl)

-- The naive marks are those of the range of the fold.
pub naive_range :
    (n N s : ℕ) → s < N → naive_marks n N s ≡ tab (λ i. bit (within (even_border n N s) (even_border n N (s + 1)) i)) n
naive_range n N s h =
    tab_ext _ _ n
    (λ i l. ap₂ (λ b e. bit (within b e i)) (border_even n N s (omega arith)) (border_even n N (s + 1) (omega arith)))

-- What the bounds of the fold give, once the checks have passed.
module _ (n N s room : ℕ) (w : NaiveIn n N s room) (r : RowRange) (k : bounds_of n N s ≡ Some r) where
  pub plain_bounds : (r.first ≤ r.past) × (r.past ≤ room)
  plain_bounds =
      let x = bounds_rows n N s w.below r k in
      rw x (bounds_order n N s w.below, rw w.fits (bounds_within n N s w.below))

  pub plain_marks : tab (λ i. bit (within r.first r.past i)) room ≡ naive_marks n N s
  plain_marks = rw (bounds_rows n N s w.below r k, w.fits) (sym (naive_range n N s w.below))
