-- What the places of joined returns mean (01, "Combinations and paths": Joining): they run through 0, 1, 2, .. split after
-- split, and within a split row after row, a place for each row that the split tests.
use mathlib.Core.Path.{◌≡◌, refl}
use mathlib.Core.Bool.{true, false}
use mathlib.Core.List.{List, [], ◌∷◌}
use Prim.Native.Nat.{ℕ, ◌+◌, ◌<◌}
use native.Mathlib.Numerals.{add-one}
use native.Mathlib.Omega.{arith}
use lib.ListN.{length, get_or}
use lib.Ieee.{Float, nan, binary64, of_bits}
use Rattle.lists.specs.Base.{bit, tab, count, sum, first_from}
use Rattle.lists.specs.CountLaws.{count_more}
use Rattle.lists.specs.TabLaws.{length-tab, get_d_tab}
use Rattle.paper.specs.Folds.{Rows, border, folds, even_border, even_borders}
use Rattle.paper.specs.Joining.{return_place, place_on_path, joined, finite}
use Rattle.paper.specs.Sets.{listing, each}
use Rattle.paper.specs.Paths.{holds, tests_of}

module _ (tests : ℕ → Rows) (n : ℕ) where
  pub place_first : return_place tests n 0 0 ≡ 0
  unfolding sum count
  place_first = refl

  -- A row that the split tests takes one place.
  pub place_row : (i r : ℕ) → return_place tests n i (r + 1) ≡ return_place tests n i r + bit (tests i r)
  place_row i r = rw (count_more (tests i) r) (omega arith)

  -- Behind the last row of a split comes the first of the next.
  pub place_split : (i : ℕ) → return_place tests n (i + 1) 0 ≡ return_place tests n i n
  unfolding sum count
  place_split i = rw add-one (omega arith)

-- Five rows in four folds, two tested: the returns of the splits {0,1} {0,2} {0,3} {1,2} {1,3} {2,3} begin at 0, 3, 6, 9, 11
-- and 13, and path 1 takes the splits 1, 3, 3, 4.
pub places_of_five : tab (place_on_path (even_borders 5 4) 4 2 1) 5 ≡ 3 ∷ 4 ∷ 9 ∷ 10 ∷ 12 ∷ []
unfolding place_on_path tab sum count first_from folds even_border listing each holds tests_of
places_of_five = refl

-- A path writes a double for each row, in row order, each from its place.
module _ (bs : List ℕ) (N k : ℕ) (returns : List Float) (p : ℕ) where
  pub joined_length : length (joined bs N k returns p) ≡ border bs N
  joined_length = length-tab _ (border bs N)

  pub joined_at : (r : ℕ) → r < border bs N → get_or (joined bs N k returns p) r nan ≡ get_or returns (place_on_path bs N k p r) nan
  joined_at r h = get_d_tab _ nan (border bs N) r h

-- Of the doubles the infinities and the NaN are not finite.
pub finite_doubles :
    (finite (of_bits binary64 0x8000000000000000) ≡ true) × (finite (of_bits binary64 0x7FEFFFFFFFFFFFFF) ≡ true)
    × (finite (of_bits binary64 0x7FF0000000000000) ≡ false) × (finite (of_bits binary64 0xFFF0000000000000) ≡ false)
    × (finite (of_bits binary64 0x7FF8000000000000) ≡ false)
unfolding of_bits
finite_doubles = (refl, refl, refl, refl, refl)
