-- Agreement (demand 3, first half).
--
-- Take any table whose spans are good (refusal 4 is not due) and whose starts never decrease, and any split: any test rows,
-- hence any borders and any fold set, any unused rows, any width of the embargo. Then
--   agreement    the marks by the window rule and by the pair rule are the same list;
--   trained      the rows trained are exactly those neither tested nor unused nor embargoed that overlap no test row's span;
--   no-overlaps  the overlap count of the rows trained against the test rows is 0.
-- The pair rule has the last two for every table. What holds of the two rules where starts decrease stands in Unordered.
use Rattle.std.specs.Prelude.{◌≡◌, Bool, ◌&&◌, not, List, ℕ, ◌<◌, eqb}
use Rattle.std.proofs.Math.Path.{refl}
use Rattle.std.proofs.Common.{sym, ap, ◌∙◌, arith}
use Rattle.std.proofs.Math.Bool.{true, false}
use Rattle.std.proofs.Math.Decide.{dec_lt}
use Rattle.std.proofs.lemmas.Bool.{not-true}
use Rattle.lists.specs.AnyLaws.{never, both, both_ways, any_some}
use Rattle.lists.specs.TabLaws.{tab_ext}
use Rattle.paper.specs.Spans.{Table, overlaps}
use Rattle.paper.specs.Folds.{Rows}
use Rattle.paper.specs.Blocks.{begins, past}
use Rattle.paper.specs.Embargo.{embargoed}
use Rattle.paper.specs.Marks.{Rule, by_window, by_pair, meets, purged, Split, mark, mark_of, marks_of}
use Rattle.paper.specs.Checks.{bad_span}
use Rattle.paper.specs.Layouts.{kfold, cpcv, walk_forward, rolling}
use Rattle.paper.specs.Overlaps.{overlap_count}
use Rattle.paper.proofs.BlocksMeaning.{past_le, past_test, block_some}
use Rattle.paper.proofs.MarksMeaning.{mark_says}
use Rattle.laws.specs.Windows.{Ordered, Good, good_table, falls, ordered_table, ordered_le, window-begins, window_ends, window_from, window_to}
use Rattle.laws.specs.SpanLaws.{meets_held}
use Rattle.laws.specs.Unordered.{window_at, purged_pair_first, purged_pair_last}
use Rattle.laws.specs.RowLists.{rows_of, overlap_count_none}

-- ---- any table

-- Row i trains: it has mark 0.
abbrev pub trains : Rule → Table → Split → Rows
trains r T s i = eqb (mark_of r T s i) 0

-- Row i is neither tested nor unused nor embargoed, and overlaps no test row's span.
abbrev pub free : Table → Split → Rows
free T s i = not (s.test i) && (not (s.unused i) && (not (meets T s.test i) && not (embargoed T s.test s.width i)))

-- The overlap count of the rows trained against the test rows, both in row order.
abbrev pub left_overlaps : Rule → Table → Split → ℕ
left_overlaps r T s = overlap_count T (rows_of (trains r T s) T.rows) (rows_of s.test T.rows)

-- The whole theorem on one table and one split.
pub record Agrees (T : Table) (s : Split) : Type 0 where
  pub same : marks_of by_window T s ≡ marks_of by_pair T s
  pub only-free : (r : Rule) (i : ℕ) → i < T.rows → trains r T s i ≡ free T s i
  pub apart : (r : Rule) → left_overlaps r T s ≡ 0

-- The pair rule trains exactly the free rows.
pub trained_pair : (T : Table) (s : Split) (i : ℕ) → trains by_pair T s i ≡ free T s i
unfolding mark_of
trained_pair T s i =
    (mark_says (s.test i) (s.unused i) (meets T s.test i) (embargoed T s.test s.width i)).train

-- A rule that trains the free rows leaves no overlap.
free-overlaps :
    (r : Rule) (T : Table) (s : Split) → ((i : ℕ) → i < T.rows → trains r T s i ≡ free T s i) →
    left_overlaps r T s ≡ 0
free-overlaps r T s same =
    overlap_count_none T (trains r T s) s.test
    (λ i h e.
    let x = (both {a = not (s.test i)} (sym (same i h) ∙ e)).1 in
    let y = (both {a = not (s.unused i)} x).1 in
    not-true (meets T s.test i) (both {a = not (meets T s.test i)} y).0)

-- So the pair rule leaves none, whatever the order of the rows.
pub no_overlaps_pair : (T : Table) (s : Split) → left_overlaps by_pair T s ≡ 0
no_overlaps_pair T s = free-overlaps by_pair T s (λ i h. trained_pair T s i)

-- ---- tables in order

module _ {T : Table} (g : Good T) (o : Ordered T) where
  -- A block's window holds its rows.
  pair_window : (t : Rows) (i : ℕ) → purged by_pair T t i ≡ true → purged by_window T t i ≡ true
  pair_window t = meets_held (record { from = λ b j x y l. window_from T b _ o j x y l; to = λ b j x y. window_to T b _ j x y })

  -- A row before the block meets the row that gives the window its start, one behind it the row that gives it its end.
  window_pair : (t : Rows) (i : ℕ) → i < T.rows → t i ≡ false → purged by_window T t i ≡ true → purged by_pair T t i ≡ true
  window_pair t i l f h =
      let m = any_some (λ b. begins t b && overlaps T (T.span i) (window_at T t b)) T.rows h in
      let e = both {a = begins t m.0} m.2 in
      at m.0 m.1 e.0 e.1 (dec_lt i m.0) (dec_lt i (past T.rows t m.0))
    where
      at :
          (b : ℕ) → b < T.rows → begins t b ≡ true → overlaps T (T.span i) (window_at T t b) ≡ true → Dec (i < b) →
          Dec (i < past T.rows t b) → purged by_pair T t i ≡ true
      at b k s w (yes x) d =
          let r = window-begins T b (past T.rows t b) (block_some T.rows t b k s) in
          let y : r.0 < T.rows = omega (arith, past_le T.rows t b (omega arith)) in
          purged_pair_first T t i b r.0 r.1 r.2 y g r.3 (ordered_le o i r.0 (omega arith) y) w
      at b k s w (no x) (yes y) = never (past_test T.rows t b i (omega arith) y) f
      at b k s w (no x) (no y) =
          let r = window_ends T b (past T.rows t b) (block_some T.rows t b k s) in
          purged_pair_last T t i b r.0 r.1 r.2 (omega arith) g l r.3 (ordered_le o r.0 i (omega arith) l) w

  -- Outside the test rows both rules purge the same rows.
  pub purged_same : (t : Rows) (i : ℕ) → i < T.rows → t i ≡ false → purged by_window T t i ≡ purged by_pair T t i
  purged_same t i l f = both_ways (window_pair t i l f) (pair_window t i)

  -- So they give each row the same mark ..
  pub mark_same : (s : Split) (i : ℕ) → i < T.rows → mark_of by_window T s i ≡ mark_of by_pair T s i
  unfolding mark_of
  mark_same s i l = go (s.test i) refl
    where
      go :
          (b : Bool) → s.test i ≡ b →
          mark (s.test i) (s.unused i) (purged by_window T s.test i) (embargoed T s.test s.width i)
          ≡ mark (s.test i) (s.unused i) (purged by_pair T s.test i) (embargoed T s.test s.width i)
      go true e = rw e
      go false e = rw (purged_same s.test i l e)

  -- .. and all rows the same list.
  pub agreement : (s : Split) → marks_of by_window T s ≡ marks_of by_pair T s
  agreement s = tab_ext (mark_of by_window T s) (mark_of by_pair T s) T.rows (mark_same s)

  -- By either rule the rows trained are exactly the free ones ..
  pub trained : (r : Rule) (s : Split) (i : ℕ) → i < T.rows → trains r T s i ≡ free T s i
  trained by_pair s i l = trained_pair T s i
  trained by_window s i l = ap (λ m. eqb m 0) (mark_same s i l) ∙ trained_pair T s i

  -- .. and none of them overlaps a test row.
  pub no_overlaps : (r : Rule) (s : Split) → left_overlaps r T s ≡ 0
  no_overlaps r s = free-overlaps r T s (trained r s)

  -- ---- all three together, and each layout as an instance

  pub agrees : (s : Split) → Agrees T s
  agrees s = record { same = agreement s; only-free = λ r. trained r s; apart = λ r. no_overlaps r s }

  pub kfold_agrees : (bs : List ℕ) (s w : ℕ) → Agrees T (kfold bs s w)
  kfold_agrees bs s w = agrees (kfold bs s w)

  pub cpcv_agrees : (bs : List ℕ) (N k s w : ℕ) → Agrees T (cpcv bs N k s w)
  cpcv_agrees bs N k s w = agrees (cpcv bs N k s w)

  pub walk_forward_agrees : (bs : List ℕ) (m s : ℕ) → Agrees T (walk_forward bs m s)
  walk_forward_agrees bs m s = agrees (walk_forward bs m s)

  pub rolling_agrees : (a size step s : ℕ) → Agrees T (rolling a size step s)
  rolling_agrees a size step s = agrees (rolling a size step s)

-- With the two premises as a call tests them: refusal 4 is not due, and no row starts earlier than the row before it.
pub accepted_agrees : (T : Table) → (bad_span T).due ≡ false → falls T ≡ false → (s : Split) → Agrees T s
accepted_agrees T h k s = agrees (good_table T h) (ordered_table T k) s
