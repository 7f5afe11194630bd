-- The overlap count on lent row lists (01, "Purge, embargo, marks"), the flags of `ml_get_train_times` and the marks of the
-- naive splitter (01, "Rows, times, settings" and "Refusal numbers").
use Rattle.std.specs.Prelude.{Bool, not, List, ℕ, length, get_or}
use Rattle.lists.specs.Base.{tab, count, any, bit}
use Rattle.paper.specs.declared.span.Span.{Span}
use Rattle.paper.specs.Spans.{Table, overlaps, drops}
use Rattle.paper.specs.Folds.{fold, even_borders}

-- Entry i of the training list overlaps some entry of the test list.
abbrev pub leaks : Table → List ℕ → List ℕ → ℕ → Bool
leaks T train test i = any (λ j. overlaps T (T.span (get_or train i 0)) (T.span (get_or test j 0))) (length test)

-- The training entries, repeats each counted, that overlap some test entry.
abbrev pub overlap_count : Table → List ℕ → List ℕ → ℕ
overlap_count T train test = count (leaks T train test) (length train)

-- One flag for each row of T: 1 kept, 0 dropped for some of the u test spans.
abbrev pub train_flags : Table → ℕ → (ℕ → Span) → List ℕ
train_flags T u test = tab (λ i. bit (not (any (λ j. drops (test j) (T.span i)) u))) T.rows

-- Plain folds: 1 for the rows of fold s, 0 for all others.
abbrev pub naive_marks : ℕ → ℕ → ℕ → List ℕ
naive_marks n N s = tab (λ i. bit (fold (even_borders n N) s i)) n
