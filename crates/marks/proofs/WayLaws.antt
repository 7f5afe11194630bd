-- Marks of the blocks, by the rule that was worked by, are those of the ranges, by the rule that was asked for.
use mathlib.Core.Path.{◌≡◌, refl, sym, ap, ◌∙◌, fun_ext}
use mathlib.Core.Bool.{Bool, true, false}
use mathlib.Core.List.{List}
use Prim.Native.Nat.{ℕ, ◌+◌, ◌≤◌, ◌<◌}
use native.Mathlib.Omega.{arith}
use lib.Dec.{leb}
use lib.IntN.{ℤ}
use lib.ListN.{length}
use Rattle.paper.specs.declared.answers.Counts.{Counts}
use Rattle.paper.specs.Spans.{table}
use Rattle.paper.specs.Folds.{Rows}
use Rattle.paper.specs.Marks.{Split, marks_of}
use Rattle.laws.specs.Ranges.{ranged_ext}
use Rattle.laws.specs.Worker.{ranged_split}
use Rattle.laws.specs.Windows.{Good, ordered_table}
use Rattle.laws.specs.Agreement.{agreement}
use Rattle.scans.specs.Falls.{starts_fall}
use Rattle.spans.specs.declared.table.Table.{Table}
use Rattle.spans.specs.Tables.{table_of, rows_in}
use Rattle.blocks.specs.declared.Block.{Block}
use Rattle.folds.specs.declared.RowRange.{RowRange}
use Rattle.paper.specs.declared.rule.Rule.{Rule}
use Rattle.paper.specs.declared.rule.Rule.TheVariants.{Window, Pair}
use Rattle.paper.specs.Rules.{rule_of}
use Rattle.blocks.specs.Held.{firsts, pasts, block_firsts, block_pasts, list_split, block_split, Blocks, Bound}
use Rattle.blocks.specs.Joined.{Joined}
use Rattle.rows.specs.Asked.{Held}
use Rattle.marks.specs.Accepted.{Written}
use Rattle.marks.specs.Ways.{way_of}

-- The rule that is worked by gives the marks that are asked for: where it is another, starts never decrease.
way_same :
    (r : Rule) (starts ends : List ℤ) → Good (table starts ends) → (s : Split) →
    marks_of (rule_of (way_of r (starts_fall starts))) (table starts ends) s ≡ marks_of (rule_of r) (table starts ends) s
way_same Window starts ends g s = refl
way_same Pair starts ends g s = go (starts_fall starts) refl
  where
    go :
        (f : Bool) → starts_fall starts ≡ f →
        marks_of (rule_of (way_of Pair (starts_fall starts))) (table starts ends) s ≡ marks_of (rule_of Pair) (table starts ends) s
    go true e = rw e
    go false e = rw e (agreement g (ordered_table (table starts ends) e) s)

-- Joined ranges test the same rows.
split_same :
    {F G B E : ℕ → ℕ} {k m n : ℕ} → Joined F G k B E m n → (unused : Rows) (width : ℕ) →
    ranged_split B E m unused width ≡ ranged_split F G k unused width
split_same j unused width = ap (λ t. record { test = t; unused = unused; width = width }) (fun_ext (λ i. sym (j.same i)))

pub blocks_written :
    (starts ends : List ℤ) {F G B E : ℕ → ℕ} {k m : ℕ} → Good (table starts ends) → Joined F G k B E m (length starts) →
    (r by : Rule) (unused : Rows) (width : ℕ) (marks : List ℕ) (counts : Counts) → by ≡ way_of r (starts_fall starts) →
    Written (marks_of (rule_of by) (table starts ends) (ranged_split B E m unused width)) marks counts →
    Written (marks_of (rule_of r) (table starts ends) (ranged_split F G k unused width)) marks counts
blocks_written starts ends g j r by unused width marks counts e w =
    let T = table starts ends in
    let same =
    way_same r starts ends g (ranged_split _ _ _ unused width) ∙ ap (marks_of (rule_of r) T) (split_same j unused width)
    in
    rw (sym same) (rw e at w)

-- ---- from the rows of the blocks to all that is held of them

module _ {r : Rule} (t : Table) (ranges : List RowRange) (bs : List Block) (h : Bound r (table_of t) ranges bs) where
  first_same : (j : ℕ) → j < length ranges → block_firsts bs j ≡ firsts ranges j
  first_same j l = ap (λ x. x.first) (h.each j l).same

  past_same : (j : ℕ) → j < length ranges → block_pasts bs j ≡ pasts ranges j
  past_same j l = ap (λ x. x.past) (h.each j l).same

  pub bound_held : length ranges ≤ 64 → Blocks (firsts ranges) (pasts ranges) (length ranges) (rows_in t) → Held r t bs
  bound_held few w =
      record {
        few = rw h.many few;
        blocks =
            rw h.many
            (record {
              some = λ j l. rw (first_same j l, past_same j l) (w.some j l);
              gap = λ j l. rw (first_same (j + 1) l, past_same j (omega arith)) (w.gap j l);
              fits = λ j l. rw (past_same j l) (w.fits j l);
            });
        bounds =
            rw h.many
            (record {
              low = λ j l. rw (first_same j l, past_same j l) (h.each j l).low;
              high = λ j l. rw (first_same j l, past_same j l) (h.each j l).high;
              embargo = λ j l. rw (first_same j l, past_same j l) (h.each j l).embargo;
            });
      }

  pub bound_split : (used width : ℕ) → block_split bs used width ≡ list_split ranges used width
  bound_split used width =
      rw h.many
      (ap (λ t. record { test = t; unused = leb used; width = width })
      (ranged_ext (block_firsts bs) (block_pasts bs) (firsts ranges) (pasts ranges) (length ranges) first_same past_same))
