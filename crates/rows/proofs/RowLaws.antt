-- From the three searches of a row to its mark. Between blocks there is a row, so each begins a block and ends with it.
use mathlib.Core.Path.{◌≡◌, refl, sym, ap, ap₂, ◌∙◌}
use mathlib.Core.Bool.{Bool, true, false, ◌&&◌}
use mathlib.Core.List.{List}
use Prim.Native.Nat.{ℕ, zero, suc, ◌+◌, ◌≤◌, ◌<◌}
use native.Mathlib.Numerals.{add-one}
use native.Mathlib.Omega.{arith}
use lib.ListN.{length}
use borrow.Author.Tests.{ne_eqb}
use Rattle.lists.specs.Base.{any}
use Rattle.lists.specs.AnyLaws.{any_ext, any_here, any_miss}
use Rattle.paper.specs.Spans.{overlaps}
use Rattle.paper.specs.Folds.{Rows}
use Rattle.paper.specs.Blocks.{latest}
use Rattle.paper.specs.Embargo.{embargo_from}
use Rattle.paper.specs.Marks.{purged, mark, mark_of}
use Rattle.laws.specs.Ranges.{ranged, Ranges, touches, heads, past_range, past_ends}
use Rattle.laws.specs.Worker.{covers, ranged_split}
use Rattle.laws.proofs.WorkerLaws.{worker_window, worker_hulls, worker_mark}
use Rattle.spans.specs.declared.table.Table as table
use Rattle.spans.specs.Tables.{table_of}
use Rattle.blocks.specs.declared.Block.{Block}
use Rattle.paper.specs.declared.rule.Rule.{Rule}
use Rattle.paper.specs.declared.rule.Rule.TheVariants.{Window, Pair}
use Rattle.paper.specs.Rules.{rule_of}
use Rattle.blocks.specs.Held.{block_firsts, block_pasts, windows, embargoes, Blocks}
use Rattle.rows.specs.Asked.{purged_by, covered_by, Held}

module _ {F G : ℕ → ℕ} {k n : ℕ} (w : Blocks F G k n) where
  pub blocks_ranges : Ranges F G k n
  blocks_ranges =
      record { some = w.some; rise = λ j l. omega (arith, w.gap j l); fits = w.fits }

  apart : (j : ℕ) → j + 1 < k → touches F G j ≡ false
  apart j l = ne_eqb (G j) (F (j + 1)) (λ e. omega (arith, w.gap j l))

  all_heads : (j : ℕ) → j < k → heads F G j ≡ true
  all_heads zero l = refl
  all_heads (suc j) l = rw (apart j (rw add-one l))

  block_past : (j : ℕ) → j < k → past_range n F G k j ≡ G j
  block_past j l = past_ends blocks_ranges j l (apart j)

  -- Each block counts.
  any-heads : (p : ℕ → Bool) → any (λ j. heads F G j && p j) k ≡ any p k
  any-heads p = any_ext _ _ k (λ j l. rw (all_heads j l))

module _ {t : table.Table} {bs : List Block} where
  -- The search for a block that purges the row finds what the rule says.
  row_purged :
      (r : Rule) → Held r t bs → (i : ℕ) →
      purged (rule_of r) (table_of t) (ranged (block_firsts bs) (block_pasts bs) (length bs)) i
      ≡ purged_by r (table_of t) (block_firsts bs) (block_pasts bs) (windows bs) ((table_of t).span i) (length bs)
  row_purged Window h i =
      let T = table_of t in
      worker_window T (blocks_ranges h.blocks) (windows bs)
      (λ j l e.
      ap₂ (λ x y. record { start = x; end = y }) (h.bounds.low j l)
      (h.bounds.high j l ∙ ap (latest T (block_firsts bs j)) (sym (block_past h.blocks j l))))
      i
      ∙ any-heads h.blocks (λ j. overlaps T (T.span i) (windows bs j))
  row_purged Pair h i =
      worker_hulls (table_of t) (blocks_ranges h.blocks) (windows bs)
      (λ j l. ap₂ (λ x y. record { start = x; end = y }) (h.bounds.low j l) (h.bounds.high j l)) i

  -- So the three searches give the row's mark.
  pub row_marked :
      (r : Rule) → Held r t bs → (unused : Rows) (width i : ℕ) →
      mark_of (rule_of r) (table_of t) (ranged_split (block_firsts bs) (block_pasts bs) (length bs) unused width) i
      ≡ mark (ranged (block_firsts bs) (block_pasts bs) (length bs) i) (unused i)
      (purged_by r (table_of t) (block_firsts bs) (block_pasts bs) (windows bs) ((table_of t).span i) (length bs))
      (covered_by (embargoes bs) width i (length bs))
  row_marked r h unused width i =
      let T = table_of t in
      let p = purged_by r T (block_firsts bs) (block_pasts bs) (windows bs) (T.span i) (length bs) in
      let tested = ranged (block_firsts bs) (block_pasts bs) (length bs) i in
      worker_mark T (blocks_ranges h.blocks) (rule_of r) unused (embargoes bs)
      (λ j l e. h.bounds.embargo j l ∙ ap (embargo_from T (block_firsts bs j)) (sym (block_past h.blocks j l))) width i p
      (row_purged r h i)
      ∙ ap (mark tested (unused i) p) (any-heads h.blocks (λ j. covers (embargoes bs j) width i))

-- ---- a search over the blocks

-- None of those passed, which are all: the answer is no.
pub none_of : (p : ℕ → Bool) (i n : ℕ) → any p i ≡ false → i ≤ n → n ≤ i → false ≡ any p n
none_of p i n h a b = let z : i ≡ n = omega arith in sym (rw z at h)

-- One of them is hit: the answer is yes.
pub one_of : (p : ℕ → Bool) (i n : ℕ) {t : Bool} → i < n → t ≡ p i → t ≡ true → true ≡ any p n
one_of p i n l e h = sym (any_here p n i l (sym e ∙ h))

-- This one is not hit: none so far.
pub not_yet : (p : ℕ → Bool) (i : ℕ) {t : Bool} → any p i ≡ false → t ≡ p i → t ≡ false → any p (i + 1) ≡ false
not_yet p i h e f = any_miss p i h (sym e ∙ f)
