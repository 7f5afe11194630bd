-- Joining (01, "Combinations and paths": Joining). The returns of all splits lie in one list of doubles, split after split,
-- each in row order; a path writes one double for each row, in row order.
use Rattle.std.specs.Prelude.{Bool, true, false, List, ℕ, ◌+◌, get_or, Float}
use Rattle.std.specs.Float.{nan, inf, fin}
use Rattle.lists.specs.Base.{tab, count, sum}
use Rattle.paper.specs.Folds.{Rows, border, folds, fold_of}
use Rattle.paper.specs.Sets.{entry}
use Rattle.paper.specs.Paths.{split_on_path}

-- Where the return of row r in split i lies, for splits that test `tests 0`, `tests 1`, .. of n rows: behind all returns of
-- the splits before i, and behind those of split i's rows before r.
abbrev pub return_place : (ℕ → Rows) → ℕ → ℕ → ℕ → ℕ
return_place tests n i r = sum (λ j. count (tests j) n) i + count (tests i) r

-- The place that path p reads for row r: the one of r in the split that the path takes for r's fold.
unfoldable pub place_on_path : List ℕ → ℕ → ℕ → ℕ → ℕ → ℕ
place_on_path bs N k p r =
    return_place (λ j. folds bs (entry N k j)) (border bs N) (split_on_path N k p (fold_of bs N r)) r

-- Path p, joined from the returns.
abbrev pub joined : List ℕ → ℕ → ℕ → List Float → ℕ → List Float
joined bs N k returns p = tab (λ r. get_or returns (place_on_path bs N k p r) nan) (border bs N)

abbrev pub finite : Float → Bool
finite nan = false
finite (inf s) = false
finite (fin s m e) = true
