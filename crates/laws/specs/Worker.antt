-- From what the marking code has at hand to 01's marks. It holds the test rows as ranges (Ranges), and for each range that
-- begins a block the block's window and the row where its embargo begins. A row's mark is then three searches over ranges.
use Rattle.std.specs.Prelude.{◌≡◌, Bool, true, ◌&&◌, ℕ, ◌+◌, ◌-◌, ◌<◌, leb, ltb, ℤ}
use Rattle.std.proofs.Common.{arith, lt-ltb, le-ltb}
use Rattle.std.proofs.Math.Path.{ap}
use Rattle.std.proofs.Math.Decide.{dec_lt}
use Rattle.std.proofs.lemmas.Bool.{lt-leb}
use Rattle.lists.specs.Base.{any, any_from}
use Rattle.paper.specs.declared.span.Span.{Span}
use Rattle.paper.specs.Spans.{Table, overlaps}
use Rattle.paper.specs.Folds.{Rows, within}
use Rattle.paper.specs.Blocks.{latest, window}
use Rattle.paper.specs.Embargo.{embargo_from}
use Rattle.paper.specs.Marks.{by_pair, purged, Split}
use Rattle.laws.specs.Ranges.{ranged, Ranges, heads, past_range, any-ranged}

-- The embargo of width rows from w on covers row i, asked without a sum that could overflow.
abbrev pub covers : ℕ → ℕ → ℕ → Bool
covers w width i = leb w i && ltb (i - w) width

pub covers_is : (w width i : ℕ) → within w (w + width) i ≡ covers w width i
covers_is w width i = go (dec_lt i w) (dec_lt (i - w) width)
  where
    go : Dec (i < w) → Dec (i - w < width) → within w (w + width) i ≡ covers w width i
    go (yes l) d = rw (lt-leb w i l)
    go (no g) (yes l) = rw (lt-ltb i (w + width) (omega arith), lt-ltb (i - w) width l)
    go (no g) (no l) = rw (le-ltb i (w + width) (omega arith), le-ltb (i - w) width (omega arith))

-- A split whose test rows are ranges.
abbrev pub ranged_split : (ℕ → ℕ) → (ℕ → ℕ) → ℕ → Rows → ℕ → Split
ranged_split F G k unused width = record { test = ranged F G k; unused = unused; width = width }

-- What is known of the numbers held for the ranges that begin a block: windows, and the rows where the embargo begins.
abbrev pub WindowsOf : Table → (ℕ → ℕ) → (ℕ → ℕ) → ℕ → (ℕ → Span) → Type 0
WindowsOf T F G k win = (j : ℕ) → j < k → heads F G j ≡ true → win j ≡ window T (F j) (past_range T.rows F G k j)

abbrev pub EmbargoesOf : Table → (ℕ → ℕ) → (ℕ → ℕ) → ℕ → (ℕ → ℕ) → Type 0
EmbargoesOf T F G k emb =
    (j : ℕ) → j < k → heads F G j ≡ true → emb j ≡ embargo_from T (F j) (past_range T.rows F G k j)

-- Windows from latest ends.
pub windows_of :
    (T : Table) (F G : ℕ → ℕ) (k : ℕ) (last : ℕ → ℤ) →
    ((j : ℕ) → j < k → heads F G j ≡ true → last j ≡ latest T (F j) (past_range T.rows F G k j)) →
    WindowsOf T F G k (λ j. record { start = (T.span (F j)).start; end = last j })
windows_of T F G k last known j l h = ap (λ e. record { start = (T.span (F j)).start; end = e }) (known j l h)

module _ (T : Table) {F G : ℕ → ℕ} {k : ℕ} (w : Ranges F G k T.rows) where
  -- ---- purged

  -- By the pair rule: a search over the rows of each range.
  pub worker_meets :
      (i : ℕ) → purged by_pair T (ranged F G k) i ≡ any (λ j. any_from (λ r. overlaps T (T.span i) (T.span r)) (F j) (G j)) k
  worker_meets i = any-ranged w (λ r. overlaps T (T.span i) (T.span r))
