-- What the embargo means (01, "Purge, embargo, marks"): from the end of its block it steps over the rows that start no later
-- than the block's latest end, begins at the first other row, and covers width rows from there, cut at n.
use mathlib.Core.Path.{◌≡◌, ap, ◌∙◌}
use mathlib.Core.Bool.{true, false, ◌&&◌, not, and-false}
use Prim.Native.Nat.{ℕ, ◌+◌, ◌-◌, ◌≤◌, ◌<◌, min}
use native.Mathlib.Omega.{arith}
use native.Mathlib.Decide.{dec_lt}
use borrow.Author.Tests.{not-true, not-false}
use Rattle.lists.specs.Base.{count}
use Rattle.lists.specs.AnyLaws.{any_none, any_here, any_some, both}
use Rattle.lists.specs.FirstLaws.{first_from_ge, first_from-le, first_from_is, first_from_before}
use Rattle.paper.specs.Spans.{Table}
use Rattle.paper.specs.Folds.{Rows, within}
use Rattle.paper.specs.Blocks.{begins, past, latest}
use Rattle.paper.specs.Embargo.{stepped, embargo_from, embargoed}
use Rattle.paper.proofs.BlocksMeaning.{begins_test, block_some}
use Rattle.paper.proofs.FoldsMeaning.{within_in, within_is, within_before, within-behind, count-within_from}

-- The block b up to e of a table.
module _ (T : Table) (b e : ℕ) where
  pub embargo_ge : e ≤ embargo_from T b e
  embargo_ge = first_from_ge (λ i. not (stepped T (latest T b e) i)) e (T.rows - e)

  pub embargo_le : e ≤ T.rows → embargo_from T b e ≤ T.rows
  embargo_le h = omega (arith, first_from-le (λ i. not (stepped T (latest T b e) i)) e (T.rows - e))

  -- Every row between is stepped over.
  pub embargo_steps : (i : ℕ) → e ≤ i → i < embargo_from T b e → stepped T (latest T b e) i ≡ true
  embargo_steps i g h =
      not-false (stepped T (latest T b e) i) (first_from_before (λ i. not (stepped T (latest T b e) i)) e (T.rows - e) i g h)

  -- The row where it begins is not.
  pub embargo_begins : e ≤ T.rows → embargo_from T b e < T.rows → stepped T (latest T b e) (embargo_from T b e) ≡ false
  embargo_begins g h =
      not-true (stepped T (latest T b e) (embargo_from T b e))
      (first_from_is (λ i. not (stepped T (latest T b e) i)) e (T.rows - e) (omega arith))

  -- It covers width rows, and fewer only where the rows end.
  pub embargo_covers :
      (width : ℕ) →
      count (within (embargo_from T b e) (embargo_from T b e + width)) T.rows ≡ min width (T.rows - embargo_from T b e)
  embargo_covers width = count-within_from (embargo_from T b e) width T.rows

-- A row is embargoed for a block whose embargo covers it, and for no other reason.
module _ (T : Table) (t : Rows) (width i : ℕ) where
  pub embargoed_for :
      embargoed T t width i ≡ true →
      (b : ℕ) × (b < T.rows) × (begins t b ≡ true) × (embargo_from T b (past T.rows t b) ≤ i)
      × (i < embargo_from T b (past T.rows t b) + width)
  embargoed_for h =
      let r = any_some _ T.rows h in
      let w = both {a = begins t r.0} r.2 in
      let f = embargo_from T r.0 (past T.rows t r.0) in
      let v = within_is f (f + width) i w.1 in
      (r.0, r.1, w.0, v.0, v.1)

  pub block_embargoes :
      (b : ℕ) → b < T.rows → begins t b ≡ true → embargo_from T b (past T.rows t b) ≤ i →
      i < embargo_from T b (past T.rows t b) + width → embargoed T t width i ≡ true
  block_embargoes b l h g k =
      any_here _ T.rows b l
      (rw (h, within_in (embargo_from T b (past T.rows t b)) (embargo_from T b (past T.rows t b) + width) i g k))

  -- So an embargoed row lies behind a tested one.
  pub embargoed-behind : embargoed T t width i ≡ true → (j : ℕ) × (j < i) × (t j ≡ true)
  embargoed-behind h =
      let r = embargoed_for h in
      let e = past T.rows t r.0 in
      let l : r.0 < e = block_some T.rows t r.0 r.1 r.2 in
      (r.0, omega (arith, embargo_ge T r.0 e, r.3), begins_test T.rows t r.0 r.2)

-- An embargo of no width covers no row.
pub embargoed_none : (T : Table) (t : Rows) (i : ℕ) → embargoed T t 0 i ≡ false
embargoed_none T t i =
    any_none _ T.rows
    (λ b l.
    ap (λ x. begins t b && x) (empty (embargo_from T b (past T.rows t b)) (dec_lt i (embargo_from T b (past T.rows t b))))
    ∙ and-false (begins t b))
  where
    empty : (f : ℕ) → Dec (i < f) → within f (f + 0) i ≡ false
    empty f (yes h) = within_before f (f + 0) i h
    empty f (no h) = within-behind f (f + 0) i (omega arith)
