-- The search over the test spans (01, "Rows, times, settings": `ml_get_train_times`).
use Rattle.std.specs.Prelude.{Bool, List, ℤ, length}
use Rattle.lists.specs.Base.{any}
use Rattle.paper.specs.declared.span.Span.{Span}
use Rattle.paper.specs.Spans.{span_of, drops}

-- Some test span drops the span a.
abbrev pub dropped_by_some : List ℤ → List ℤ → Span → Bool
dropped_by_some starts ends a = any (λ j. drops (span_of starts ends j) a) (length starts)
