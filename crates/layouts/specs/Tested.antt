-- What the calls on layouts take, in the words of the paper.
use Rattle.std.specs.Prelude.{◌≡◌, true, ℕ, ◌+◌, ◌≤◌, ◌<◌, leb}
use Rattle.paper.specs.declared.numbers.FoldSet.{FoldSet}
use Rattle.paper.specs.Folds.{within, border, folds, even_borders}
use Rattle.paper.specs.Marks.{Split}
use Rattle.paper.specs.Layouts.{cross, forward}
use Rattle.paper.specs.Handed.{list_of}
use Rattle.paper.specs.Sets.{is_split}
use Rattle.laws.specs.Chosen.{fold_from, fold_to}

-- The rows b up to e are tested, and the rows from `used` on take no part.
abbrev pub one_range : ℕ → ℕ → ℕ → ℕ → Split
one_range b e used width = record { test = within b e; unused = leb used; width = width }

-- Fold f of N even folds of n rows is tested, and only rows before it can train: `walk_forward` with m + s for f.
abbrev pub forward_fold : ℕ → ℕ → ℕ → Split
forward_fold n N f = forward (border (even_borders n N) f) (border (even_borders n N) (f + 1))

-- The folds of the set, of N even folds of n rows, are tested: `cpcv` where they are the s-th entry of the listing.
abbrev pub cross_set : ℕ → ℕ → FoldSet → ℕ → Split
cross_set n N set width = cross (folds (even_borders n N) (list_of set)) width

-- Fold f is one of N folds of n rows.
pub record FoldIn (n N f : ℕ) : Type 0 where
  pub below : f < N
  pub enough : N ≤ n

-- The set is a split of N folds of n rows, in the order of its folds.
pub record SetIn (n N : ℕ) (set : FoldSet) : Type 0 where
  pub some : 0 < N
  pub enough : N ≤ n
  pub few : set.count ≤ 64
  pub split : is_split N set.count (list_of set) ≡ true

-- Where each of the first k folds of the set begins and ends, held by two functions of a place in it.
pub record RangesOf (n N : ℕ) (set : FoldSet) (from to : ℕ → ℕ) (k : ℕ) : Type 0 where
  pub begin : (j : ℕ) → j < k → from j ≡ fold_from (even_borders n N) (list_of set) j
  pub end : (j : ℕ) → j < k → to j ≡ fold_to (even_borders n N) (list_of set) j
