-- The row that refusal 4 carries (01, "Refusal numbers"): the first whose span ends before its start.
use Rattle.std.specs.Prelude.{Bool, not, cond, List, ℕ, ℤ, ltb, length, Option, None, Some}
use Rattle.lists.specs.Base.{first}
use Rattle.paper.specs.Spans.{table, good}

-- Row i ends before its start.
abbrev pub is_backward : List ℤ → List ℤ → ℕ → Bool
is_backward starts ends i = not (good (table starts ends) ((table starts ends).span i))

-- The first such row, or the number of rows.
abbrev pub first_backward : List ℤ → List ℤ → ℕ
first_backward starts ends = first (is_backward starts ends) (length starts)

-- The same, where there is such a row.
abbrev pub backward_found : List ℤ → List ℤ → Option ℕ
backward_found starts ends = cond (ltb (first_backward starts ends) (length starts)) (Some (first_backward starts ends)) None
