-- What purging, marks and counts mean (01, "Purge, embargo, marks"): which rows each rule purges, that each row has exactly
-- one of six marks, and that each count is the number of rows of its kind.
use mathlib.Core.Path.{◌≡◌, refl, sym, ◌∙◌}
use mathlib.Core.Bool.{Bool, true, false, ◌&&◌, ◌||◌, not}
use Prim.Native.Nat.{ℕ, zero, suc, ◌+◌, ◌<◌}
use native.Mathlib.Omega.{arith}
use lib.Dec.{eqb}
use borrow.Author.Tests.{eqb-true, ne_eqb}
use Rattle.lists.specs.Base.{bit, tab, count, tally}
use Rattle.lists.specs.AnyLaws.{any_here, any_some, both}
use Rattle.lists.specs.CountLaws.{count_ext, count-or, tally-tab}
use Rattle.paper.specs.Spans.{Table, overlap}
use Rattle.paper.specs.Folds.{Rows}
use Rattle.paper.specs.Blocks.{begins, past, window}
use Rattle.paper.specs.Marks.{Rule, by_window, by_pair, purged, Split, mark, mark_of, marks_of, counts_of, embargo_count}
use Rattle.paper.specs.Embargo.{embargoed}

-- ---- purged rows

module _ (T : Table) (t : Rows) (i : ℕ) where
  -- The window rule purges a row for a block whose window it overlaps, and for no other reason.
  pub purged-window :
      purged by_window T t i ≡ true →
      (b : ℕ) × (b < T.rows) × (begins t b ≡ true) × (overlap (T.span i) (window T b (past T.rows t b)) ≡ true)
  purged-window h =
      let r = any_some _ T.rows h in
      let w = both {a = begins t r.0} r.2 in
      (r.0, r.1, w.0, w.1)

  pub window_purges :
      (b : ℕ) → b < T.rows → begins t b ≡ true → overlap (T.span i) (window T b (past T.rows t b)) ≡ true →
      purged by_window T t i ≡ true
  window_purges b l h k = any_here _ T.rows b l (rw (h, k))

  -- The pair rule purges it for a test row that it overlaps.
  pub purged_pair :
      purged by_pair T t i ≡ true → (j : ℕ) × (j < T.rows) × (t j ≡ true) × (overlap (T.span i) (T.span j) ≡ true)
  purged_pair h =
      let r = any_some _ T.rows h in
      let w = both {a = t r.0} r.2 in
      (r.0, r.1, w.0, w.1)

  pub pair_purges :
      (j : ℕ) → j < T.rows → t j ≡ true → overlap (T.span i) (T.span j) ≡ true → purged by_pair T t i ≡ true
  pair_purges j l h k = any_here _ T.rows j l (rw (h, k))

-- ---- one row

-- When a row that is tested (t), unused (u), purged (p), embargoed (e) has which mark.
pub record Says (t u p e : Bool) : Type 0 where
  pub train : eqb (mark t u p e) 0 ≡ not t && (not u && (not p && not e))
  pub test : eqb (mark t u p e) 1 ≡ t
  pub purge : eqb (mark t u p e) 2 ≡ not t && (not u && (p && not e))
  pub embargo : eqb (mark t u p e) 3 ≡ not t && (not u && (not p && e))
  pub two : eqb (mark t u p e) 4 ≡ not t && (not u && (p && e))
  pub unused : eqb (mark t u p e) 5 ≡ not t && u
  pub some_purge : eqb (mark t u p e) 2 || eqb (mark t u p e) 4 ≡ not t && (not u && p)
  pub some_embargo : eqb (mark t u p e) 3 || eqb (mark t u p e) 4 ≡ not t && (not u && e)

pub mark_says : (t u p e : Bool) → Says t u p e
mark_says true u p e =
    record { train = refl; test = refl; purge = refl; embargo = refl; two = refl; unused = refl; some_purge = refl; some_embargo = refl }
mark_says false true p e =
    record { train = refl; test = refl; purge = refl; embargo = refl; two = refl; unused = refl; some_purge = refl; some_embargo = refl }
mark_says false false true true =
    record { train = refl; test = refl; purge = refl; embargo = refl; two = refl; unused = refl; some_purge = refl; some_embargo = refl }
mark_says false false true false =
    record { train = refl; test = refl; purge = refl; embargo = refl; two = refl; unused = refl; some_purge = refl; some_embargo = refl }
mark_says false false false true =
    record { train = refl; test = refl; purge = refl; embargo = refl; two = refl; unused = refl; some_purge = refl; some_embargo = refl }
mark_says false false false false =
    record { train = refl; test = refl; purge = refl; embargo = refl; two = refl; unused = refl; some_purge = refl; some_embargo = refl }

-- Of the six marks each row has one, and no other.
abbrev six : ℕ → ℕ
six m = bit (eqb m 0) + bit (eqb m 1) + bit (eqb m 2) + bit (eqb m 3) + bit (eqb m 4) + bit (eqb m 5)

pub mark-six : (t u p e : Bool) → six (mark t u p e) ≡ 1
mark-six true u p e = refl
mark-six false true p e = refl
mark-six false false true true = refl
mark-six false false true false = refl
mark-six false false false true = refl
mark-six false false false false = refl

-- ---- all rows

six_counts :
    (f : ℕ → ℕ) (n : ℕ) → ((i : ℕ) → six (f i) ≡ 1) →
    count (λ i. eqb (f i) 0) n + count (λ i. eqb (f i) 1) n + count (λ i. eqb (f i) 2) n + count (λ i. eqb (f i) 3) n
    + count (λ i. eqb (f i) 4) n + count (λ i. eqb (f i) 5) n
    ≡ n
unfolding count
six_counts f zero h = refl
six_counts f (suc n) h = omega (arith, six_counts f n h, h n)

-- Two marks are tallied one by one or together.
pub two_tallies : (v w : ℕ) (f : ℕ → ℕ) (n : ℕ) → (v ≡ w → ⊥) → tally v (tab f n) + tally w (tab f n) ≡ count (λ i. eqb (f i) v || eqb (f i) w) n
two_tallies v w f n h =
    rw (tally-tab v f n, tally-tab w f n)
    (sym (count-or (λ i. eqb (f i) v) (λ i. eqb (f i) w) n (λ i l e. ne_eqb (f i) w (λ z. h (sym (eqb-true (f i) v e) ∙ z)))))

module _ (r : Rule) (T : Table) (s : Split) where
  says : (i : ℕ) → Says (s.test i) (s.unused i) (purged r T s.test i) (embargoed T s.test s.width i)
  says i = mark_says (s.test i) (s.unused i) (purged r T s.test i) (embargoed T s.test s.width i)

  -- The six tallies add up to the rows.
  pub marks_all :
      let l = marks_of r T s in
      tally 0 l + tally 1 l + tally 2 l + tally 3 l + tally 4 l + tally 5 l ≡ T.rows
  unfolding mark_of
  marks_all =
      simp tally-tab
      (six_counts (mark_of r T s) T.rows (λ i. mark-six (s.test i) (s.unused i) (purged r T s.test i) (embargoed T s.test s.width i)))

  -- Each count is the number of rows of its kind.
  pub count_train :
      (counts_of (marks_of r T s)).train
      ≡ count (λ i. not (s.test i) && (not (s.unused i) && (not (purged r T s.test i) && not (embargoed T s.test s.width i)))) T.rows
  unfolding mark_of
  count_train = tally-tab 0 (mark_of r T s) T.rows ∙ count_ext _ _ T.rows (λ i h. (says i).train)

  pub count_test : (counts_of (marks_of r T s)).test ≡ count s.test T.rows
  unfolding mark_of
  count_test = tally-tab 1 (mark_of r T s) T.rows ∙ count_ext _ _ T.rows (λ i h. (says i).test)

  pub count-purged :
      (counts_of (marks_of r T s)).purged
      ≡ count (λ i. not (s.test i) && (not (s.unused i) && purged r T s.test i)) T.rows
  unfolding mark_of
  count-purged =
      two_tallies 2 4 (mark_of r T s) T.rows (omega arith) ∙ count_ext _ _ T.rows (λ i h. (says i).some_purge)

  pub count-embargoed :
      (counts_of (marks_of r T s)).embargoed
      ≡ count (λ i. not (s.test i) && (not (s.unused i) && embargoed T s.test s.width i)) T.rows
  unfolding mark_of
  count-embargoed =
      two_tallies 3 4 (mark_of r T s) T.rows (omega arith) ∙ count_ext _ _ T.rows (λ i h. (says i).some_embargo)

  -- The engine's count leaves out the rows that are purged too.
  pub count_embargo_alone :
      embargo_count (marks_of r T s)
      ≡ count (λ i. not (s.test i) && (not (s.unused i) && (not (purged r T s.test i) && embargoed T s.test s.width i))) T.rows
  unfolding mark_of
  count_embargo_alone = tally-tab 3 (mark_of r T s) T.rows ∙ count_ext _ _ T.rows (λ i h. (says i).embargo)
