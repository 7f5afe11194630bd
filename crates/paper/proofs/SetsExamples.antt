-- N = 4, k = 2: how many splits and paths there are, and lists that are and are not splits. (The listing and the paths
-- themselves stand in Examples.)
use mathlib.Core.Path.{◌≡◌, refl}
use mathlib.Core.Bool.{true, false}
use mathlib.Core.List.{[], ◌∷◌}
use Rattle.paper.specs.Sets.{choose, ascends, all_below, is_split}
use Rattle.paper.specs.Paths.{paths}

pub counts_of_4_2 : (choose 4 2 ≡ 6) × (paths 4 2 ≡ 3)
unfolding choose
counts_of_4_2 = (refl, refl)

pub is_split_of_4_2 : is_split 4 2 (1 ∷ 3 ∷ []) ≡ true
unfolding ascends all_below
is_split_of_4_2 = refl

-- Descending, a fold twice, a fold that is none of the 4, a set of 3.
pub not-is_split_of_4_2 : (is_split 4 2 (3 ∷ 1 ∷ []) ≡ false) × (is_split 4 2 (1 ∷ 1 ∷ []) ≡ false) × (is_split 4 2 (1 ∷ 4 ∷ []) ≡ false) × (is_split 4 2 (1 ∷ 2 ∷ 3 ∷ []) ≡ false)
unfolding ascends all_below
not-is_split_of_4_2 = (refl, refl, refl, refl)
