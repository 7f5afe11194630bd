-- Times, spans and tables (01, "Rows, times, settings": tables, overlap, `ml_get_train_times`).
-- Only the order of times matters. One test of two times stands behind overlap, refusal 4 and the embargo's stepping:
-- `reaches`. `ml_get_train_times` compares times by a rule of its own.
use Rattle.std.specs.Prelude.{Bool, cond, ◌&&◌, ◌||◌, List, ℕ, ℤ, pos, length, get_or}
use Rattle.std.specs.Int.Signed.{le_z, lt_z}
use Rattle.paper.specs.declared.span.Span.{Span}

-- A table: how many rows, and the span of each.
pub record Table : Type 0 where
  pub rows : ℕ
  pub span : ℕ → Span

-- The spans that two lists of times give.
abbrev pub span_of : List ℤ → List ℤ → ℕ → Span
span_of starts ends i = record { start = get_or starts i (pos 0); end = get_or ends i (pos 0) }

-- The table of the two lent lists.
abbrev pub table : List ℤ → List ℤ → Table
table starts ends = record { rows = length starts; span = span_of starts ends }

-- A start s is no later than an end e.
unfoldable pub reaches : ℤ → ℤ → Bool
reaches s e = le_z s e

-- The later of two ends.
unfoldable pub later : ℤ → ℤ → ℤ
later a b = cond (lt_z a b) b a

-- Spans a and b overlap when a.start ≤ b.end and b.start ≤ a.end. Touching is overlap.
abbrev pub overlap : Span → Span → Bool
overlap a b = reaches a.start b.end && reaches b.start a.end

-- The same, of two spans of a table. (Every table measures its spans alike.)
abbrev pub overlaps : Table → Span → Span → Bool
overlaps T a b = overlap a b

-- A span that does not end before its start. Refusal 4 is given for one that does.
abbrev pub good : Table → Span → Bool
good T a = reaches a.start a.end

-- A time lies in a span.
abbrev pub lies_in : ℤ → Span → Bool
lies_in x t = le_z t.start x && le_z x t.end

-- `ml_get_train_times` drops span a for the test span t: its start lies in t, or its end does, or it holds t.
-- It asks nothing of the order inside a: (4,1) against (3,5) is dropped, though the two do not overlap.
abbrev pub drops : Span → Span → Bool
drops t a = lies_in a.start t || lies_in a.end t || le_z a.start t.start && le_z t.end a.end
