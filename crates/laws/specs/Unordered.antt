-- The two rules where starts may decrease: as far as each purges what the other does, and that neither purges all of it.
--
--   purged-window      A row that overlaps a test row is purged by the window rule too, if the window of that test row's
--                      block (it begins where the block's first row starts) begins no later than the test row starts.
--   purged-pair-first  A row that overlaps a block's window is purged by the pair rule too, if it starts no later than the
--                      row that gives the window its start,
--   purged-pair-last   or no earlier than the row that gives the window its end.
--   neither-contains   Two tables of four rows show that neither rule's purged rows contain the other's.
use Rattle.std.specs.Prelude.{◌≡◌, refl, true, false, ℕ, ◌≤◌, ◌<◌}
use Rattle.std.proofs.Common.{arith}
use Rattle.lists.specs.Base.{any, first_from, join_from, tab}
use Rattle.lists.specs.AnyLaws.{never, any_here}
use Rattle.paper.specs.declared.span.Span.{Span}
use Rattle.paper.specs.Spans.{Table, overlaps, reaches, later}
use Rattle.paper.specs.Folds.{Rows, within}
use Rattle.paper.specs.Blocks.{begins, past, window}
use Rattle.paper.specs.Marks.{Rule, by_window, by_pair, purged}
use Rattle.paper.proofs.Times.{◌⊑◌}
use Rattle.paper.proofs.BlocksMeaning.{past_test}
use Rattle.paper.proofs.Examples.{late, between}
use Rattle.laws.specs.SpanLaws.{overlaps_wider, overlaps_first, overlaps_last}
use Rattle.laws.specs.Windows.{Good, good_table, window_to}

-- The window of the block that begins at b.
abbrev pub window_at : Table → Rows → ℕ → Span
window_at T t b = window T b (past T.rows t b)

-- Row i, and row j of the block that begins at b.
module _
    (T : Table) (t : Rows) (i b j : ℕ) (from : b ≤ j) (to : j < past T.rows t b) (below : j < T.rows)
  where
    -- From the pair rule to the window rule.
    pub purged-window :
        begins t b ≡ true → (window_at T t b).start ⊑ (T.span j).start → overlaps T (T.span i) (T.span j) ≡ true →
        purged by_window T t i ≡ true
    purged-window s early o =
        any_here _ T.rows b (omega arith)
        (rw (s, overlaps_wider T (T.span i) (T.span j) (window_at T t b) early (window_to T b (past T.rows t b) j from to) o))

    -- From the window rule to the pair rule: row j gives the window its start, and row i starts no later ..
    pub purged_pair_first :
        Good T → (window_at T t b).start ≡ (T.span j).start → (T.span i).start ⊑ (T.span j).start →
        overlaps T (T.span i) (window_at T t b) ≡ true → purged by_pair T t i ≡ true
    purged_pair_first g same before o =
        any_here _ T.rows j below
        (rw (past_test T.rows t b j from to, overlaps_first T (T.span i) (T.span j) (window_at T t b) same before (g.each j below) o))

    -- .. or row j gives the window its end, and row i starts no earlier.
    pub purged_pair_last :
        Good T → i < T.rows → (window_at T t b).end ≡ (T.span j).end → (T.span j).start ⊑ (T.span i).start →
        overlaps T (T.span i) (window_at T t b) ≡ true → purged by_pair T t i ≡ true
    purged_pair_last g k same behind o =
        any_here _ T.rows j below
        (rw (past_test T.rows t b j from to, overlaps_last T (T.span i) (T.span j) (window_at T t b) same behind (g.each i k) o))

-- In every table with good spans, rule q purges each row outside the test rows that rule r purges.
abbrev pub Contains : Rule → Rule → Type 0
Contains q r =
    (T : Table) → Good T → (t : Rows) (i : ℕ) → i < T.rows → t i ≡ false → purged r T t i ≡ true → purged q T t i ≡ true

-- Rows 0 and 1 tested: `late` is (10,12) (0,2) (20,21) (1,3), where the window misses row 3; `between` is
-- (0,1) (10,11) (5,6) (20,21), where the window holds row 2 and no test row meets it.
pub neither_contains : (¬ Contains by_window by_pair) × (¬ Contains by_pair by_window)
unfolding any first_from join_from tab reaches later begins
neither_contains = (
  λ c. never (c late (good_table late refl) (within 0 2) 3 (omega arith) refl refl) refl,
  λ c. never (c between (good_table between refl) (within 0 2) 2 (omega arith) refl refl) refl,
)
