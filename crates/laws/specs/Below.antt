-- Marks look at the rows of the table only: two splits that agree on these rows give the same marks. So a layout may be
-- cut at n, as 01 says of the rolling layout, before it is marked.
use Rattle.std.specs.Prelude.{◌≡◌, refl, Bool, ◌&&◌, not, leb, ltb}
use Rattle.std.proofs.Common.{ap, ◌∙◌, arith, lt-ltb, le-ltb, le-leb}
use Rattle.std.proofs.Math.Path.{ap₂}
use Prim.Native.Nat.{ℕ, zero, suc, ◌+◌, ◌-◌, ◌<◌, min}
use Rattle.std.proofs.Math.Decide.{dec_lt}
use Rattle.std.proofs.lemmas.Bool.{lt-leb}
use Rattle.lists.specs.Base.{any}
use Rattle.lists.specs.AnyLaws.{any_ext}
use Rattle.lists.specs.FirstLaws.{first_from_ext}
use Rattle.lists.specs.TabLaws.{tab_ext}
use Rattle.paper.specs.Spans.{Table, overlaps}
use Rattle.paper.specs.Folds.{Rows, within}
use Rattle.paper.specs.Blocks.{begins, past, window}
use Rattle.paper.specs.Embargo.{embargo_from, embargoed}
use Rattle.paper.specs.Marks.{Rule, by_window, by_pair, purged, Split, mark, mark_of, marks_of}
use Rattle.paper.specs.Layouts.{forward}

module _ (n : ℕ) (t u : Rows) (same : (i : ℕ) → i < n → t i ≡ u i) where
  begins_below : (b : ℕ) → b < n → begins t b ≡ begins u b
  unfolding begins
  begins_below zero h = same 0 h
  begins_below (suc b) h = rw (same (suc b) h, same b (omega arith))

  past_below : (b : ℕ) → b < n → past n t b ≡ past n u b
  past_below b h = first_from_ext _ _ b (n - b) (λ i x y. ap not (same i (omega arith)))

  -- Whatever is asked of the blocks, from b up to e.
  blocks_below : (P : ℕ → ℕ → Bool) → any (λ b. begins t b && P b (past n t b)) n ≡ any (λ b. begins u b && P b (past n u b)) n
  blocks_below P = any_ext _ _ n (λ b l. ap₂ (λ x e. x && P b e) (begins_below b l) (past_below b l))

-- Two splits agree on the rows below n.
pub record SameBelow (n : ℕ) (s v : Split) : Type 0 where
  pub test : (i : ℕ) → i < n → s.test i ≡ v.test i
  pub unused : (i : ℕ) → i < n → s.unused i ≡ v.unused i
  pub width : s.width ≡ v.width

module _ (T : Table) (s v : Split) (same : SameBelow T.rows s v) where
  purged_below : (r : Rule) (i : ℕ) → purged r T s.test i ≡ purged r T v.test i
  purged_below by_window i =
      blocks_below T.rows s.test v.test same.test (λ b e. overlaps T (T.span i) (window T b e))
  purged_below by_pair i =
      any_ext _ _ T.rows (λ j l. ap (λ x. x && overlaps T (T.span i) (T.span j)) (same.test j l))

  embargoed_below : (i : ℕ) → embargoed T s.test s.width i ≡ embargoed T v.test v.width i
  embargoed_below i =
      blocks_below T.rows s.test v.test same.test
      (λ b e. within (embargo_from T b e) (embargo_from T b e + s.width) i)
      ∙ ap (λ w. embargoed T v.test w i) same.width

  pub marks_of_below : (r : Rule) → marks_of r T s ≡ marks_of r T v
  unfolding mark_of
  marks_of_below r =
      tab_ext (mark_of r T s) (mark_of r T v) T.rows
      (λ i l.
      ap₂ (λ t u. mark t u (purged r T s.test i) (embargoed T s.test s.width i)) (same.test i l) (same.unused i l)
      ∙ ap₂ (mark (v.test i) (v.unused i)) (purged_below r i) (embargoed_below i))

-- The rows b up to e tested, cut at n.
pub forward_cut : (r : Rule) (T : Table) (b e : ℕ) → marks_of r T (forward b e) ≡ marks_of r T (forward b (min e T.rows))
forward_cut r T b e =
    marks_of_below T (forward b e) (forward b (min e T.rows))
    (record {
      test = λ i l. ap (λ x. leb b i && x) (less i l (dec_lt i e));
      unused = λ i l. more i l (dec_lt i e);
      width = refl;
    })
    r
  where
    less : (i : ℕ) → i < T.rows → Dec (i < e) → ltb i e ≡ ltb i (min e T.rows)
    less i l (yes h) = rw (lt-ltb i e h, lt-ltb i (min e T.rows) (omega arith))
    less i l (no h) = rw (le-ltb i e (omega arith), le-ltb i (min e T.rows) (omega arith))

    more : (i : ℕ) → i < T.rows → Dec (i < e) → leb e i ≡ leb (min e T.rows) i
    more i l (yes h) = rw (lt-leb e i h, lt-leb (min e T.rows) i (omega arith))
    more i l (no h) = rw (le-leb e i (omega arith), le-leb (min e T.rows) i (omega arith))
