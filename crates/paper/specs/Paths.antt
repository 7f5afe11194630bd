-- The paths: 01, "Combinations and paths". Path p takes, for each fold g, the p-th split, from 0, that tests g.
use Rattle.std.specs.Prelude.{Bool, false, ◌&&◌, ◌||◌, List, [], ◌∷◌, ℕ, ◌+◌, ◌-◌, eqb, length, get_or, take}
use Rattle.lists.specs.Base.{tab, bit, first}
use Rattle.paper.specs.Sets.{choose, listing}

-- Does the set hold the fold g? A split tests the folds that it holds.
unfoldable pub holds : ℕ → List ℕ → Bool
holds g [] = false
holds g (f ∷ s) = eqb f g || holds g s

-- How many of the sets hold g.
unfoldable pub tests_of : ℕ → List (List ℕ) → ℕ
tests_of g [] = 0
tests_of g (s ∷ ss) = bit (holds g s) + tests_of g ss

-- How many of the sets before place i hold g.
abbrev pub tests_before : ℕ → List (List ℕ) → ℕ → ℕ
tests_before g ss i = tests_of g (take i ss)

-- The place of the p-th set, from 0, that holds g: the first that holds g and before which p sets do.
-- The length of the list where there is none.
abbrev pub nth : ℕ → List (List ℕ) → ℕ → ℕ
nth g ss p = first (λ i. holds g (get_or ss i []) && eqb (tests_before g ss i) p) (length ss)

-- How many paths there are, for k of 1 or more.
abbrev pub paths : ℕ → ℕ → ℕ
paths N k = choose (N - 1) (k - 1)

-- The split that path p takes for fold g.
abbrev pub split_on_path : ℕ → ℕ → ℕ → ℕ → ℕ
split_on_path N k p g = nth g (listing 0 N k) p

-- Path p, fold by fold.
abbrev pub path_of : ℕ → ℕ → ℕ → List ℕ
path_of N k p = tab (split_on_path N k p) N
