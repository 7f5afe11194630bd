-- Tables in order, tables with good spans, and what a block's window means in them.
use Rattle.std.specs.Prelude.{◌≡◌, refl, Bool, true, false, not, ℕ, suc, ◌+◌, ◌-◌, ◌≤◌, ◌<◌}
use Rattle.std.proofs.Common.{add-one, arith, ltb-false}
use Rattle.std.proofs.Math.Decide.{le_ind}
use Rattle.std.specs.Int.Signed.{lt_z}
use Rattle.std.proofs.lemmas.Bool.{not-false}
use Rattle.lists.specs.Base.{first, any}
use Rattle.lists.specs.AnyLaws.{any_each}
use Rattle.lists.specs.FirstLaws.{first_before}
use Rattle.paper.specs.Spans.{Table, good}
use Rattle.paper.specs.Blocks.{window}
use Rattle.paper.specs.Checks.{bad_span}
use Rattle.paper.proofs.Times.{◌⊑◌, ⊑_refl, ⊑_trans, ⊑_unless, latest_bound, latest_place}

-- Starts never decrease.
pub record Ordered (T : Table) : Type 0 where
  pub rise : (i : ℕ) → i + 1 < T.rows → (T.span i).start ⊑ (T.span (i + 1)).start

-- No span ends before its start.
pub record Good (T : Table) : Type 0 where
  pub each : (i : ℕ) → i < T.rows → good T (T.span i) ≡ true

-- That is: refusal 4 is not due.
pub good_table : (T : Table) → (bad_span T).due ≡ false → Good T
good_table T h =
    record {
      each = λ i l.
          not-false (good T (T.span i))
          (first_before (λ j. not (good T (T.span j))) T.rows i
          (omega (arith, ltb-false (first (λ j. not (good T (T.span j))) T.rows) T.rows h)));
    }

-- Some row starts earlier than the row before it. Where none does, starts never decrease.
abbrev pub falls : Table → Bool
falls T = any (λ i. lt_z (T.span (i + 1)).start (T.span i).start) (T.rows - 1)

pub ordered_table : (T : Table) → falls T ≡ false → Ordered T
ordered_table T h =
    record {
      rise = λ i l.
          ⊑_unless (T.span i).start (T.span (i + 1)).start
          (any_each (λ i. lt_z (T.span (i + 1)).start (T.span i).start) (T.rows - 1) i h (omega arith));
    }

-- A row starts no later than any row behind it.
pub ordered_le : {T : Table} → Ordered T → (i j : ℕ) → i ≤ j → j < T.rows → (T.span i).start ⊑ (T.span j).start
ordered_le {T} o i j h =
    le_ind (λ m. m < T.rows → (T.span i).start ⊑ (T.span m).start) (λ l. ⊑_refl (T.span i).start)
    (λ m k ih l.
    ⊑_trans (T.span i).start (T.span m).start (T.span (suc m)).start (ih (omega arith))
    (rw add-one at (o.rise m (omega arith))))
    j h

-- The window of the rows b up to e. It begins at the start of one of them and ends at the end of one of them.
module _ (T : Table) (b e : ℕ) where
  pub window-begins : b < e → (i : ℕ) × (b ≤ i) × (i < e) × ((window T b e).start ≡ (T.span i).start)
  window-begins h = (b, omega arith, h, refl)

  pub window_ends : b < e → (i : ℕ) × (b ≤ i) × (i < e) × ((window T b e).end ≡ (T.span i).end)
  window_ends h = latest_place T b e h

  -- It holds the span of each. That it begins early enough is where order is needed.
  pub window_from : Ordered T → (i : ℕ) → b ≤ i → i < e → e ≤ T.rows → (window T b e).start ⊑ (T.span i).start
  window_from o i g h k = ordered_le o b i g (omega arith)

  pub window_to : (i : ℕ) → b ≤ i → i < e → (T.span i).end ⊑ (window T b e).end
  window_to i g h = latest_bound T b e i g h
