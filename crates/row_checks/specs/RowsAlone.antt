-- What the rolling layout is asked of its rows (01, "Refusal numbers": "Rolling has no N; it takes the fraction for 3 only"):
-- 12, 1, 10, 3, 4, 5. `rolling_checks` begins with these.
use Rattle.std.specs.Prelude.{List, [], ◌∷◌, ℕ, ℤ, Float, length}
use Rattle.paper.specs.Spans.{table}
use Rattle.paper.specs.Checks.{Check, lengths_differ, no_rows, too_many_rows, bad_fraction, bad_span, wrong_length}

abbrev pub rows_alone : List ℤ → List ℤ → Float → ℕ → List Check
rows_alone starts ends x room =
    lengths_differ starts ends
    ∷ no_rows (length starts)
    ∷ too_many_rows (length starts)
    ∷ bad_fraction x
    ∷ bad_span (table starts ends)
    ∷ wrong_length room (length starts)
    ∷ []
