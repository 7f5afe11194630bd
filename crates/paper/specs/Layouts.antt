-- Which rows a numbered split tests, which take no part, and its embargo (01, "Purge, embargo, marks" and "Combinations
-- and paths"): k-fold, combinations (CPCV), walk-forward and the rolling layout. bs are the borders of the folds.
use Rattle.std.specs.Prelude.{false, List, ℕ, ◌+◌, ◌*◌, leb}
use Rattle.paper.specs.Folds.{Rows, within, border, fold, folds}
use Rattle.paper.specs.Marks.{Split}
use Rattle.paper.specs.Sets.{entry}

-- Every row that is not tested can train.
abbrev pub cross : Rows → ℕ → Split
cross t w = record { test = t; unused = λ i. false; width = w }

-- The rows b up to e are tested, and only rows before them can train: later rows are unused, and no row is embargoed.
abbrev pub forward : ℕ → ℕ → Split
forward b e = record { test = within b e; unused = λ i. leb e i; width = 0 }

-- Split s tests fold s.
abbrev pub kfold : List ℕ → ℕ → ℕ → Split
kfold bs s w = cross (fold bs s) w

-- Split s, from 0, tests the folds of the s-th set of the listing.
abbrev pub cpcv : List ℕ → ℕ → ℕ → ℕ → ℕ → Split
cpcv bs N k s w = cross (folds bs (entry N k s)) w

-- Split s tests fold m + s.
abbrev pub walk_forward : List ℕ → ℕ → ℕ → Split
walk_forward bs m s = forward (border bs (m + s)) (border bs (m + s + 1))

-- Split s tests size rows from a + s·step on.
abbrev pub rolling : ℕ → ℕ → ℕ → ℕ → Split
rolling a size step s = forward (a + s * step) (a + s * step + size)
