-- What the calls on even folds answer: the rows of a fold, the fold of a row, or that there is none (01, "Rows, times,
-- settings": Folds).
use Rattle.std.specs.Prelude.{cond, ◌&&◌, ℕ, ◌+◌, ltb, Option, None, Some}
use Rattle.paper.specs.declared.numbers.FoldNumber.{FoldNumber}
use Rattle.paper.specs.Folds.{even_border, even_borders, fold_of}
use Rattle.folds.specs.declared.RowRange.{RowRange}

-- Fold f of N, from its border up to the next.
abbrev pub bounds_of : ℕ → ℕ → ℕ → Option RowRange
bounds_of n N f = cond (ltb f N) (Some (record { first = even_border n N f; past = even_border n N (f + 1) })) None

-- The fold, of N, of a row of n.
abbrev pub fold_found : ℕ → ℕ → ℕ → Option FoldNumber
fold_found n N row = cond (ltb row n && ltb 0 N) (Some (record { 0 = fold_of (even_borders n N) N row })) None
