-- The rows before i are marked and counted.
use mathlib.Core.Path.{◌≡◌}
use mathlib.Core.List.{List}
use Prim.Native.Nat.{ℕ}
use lib.ListN.{take}
use Rattle.lists.specs.Base.{tab}
use Rattle.paper.specs.declared.answers.Counts.{Counts}
use Rattle.paper.specs.Marks.{mark_of, counts_of}
use Rattle.spans.specs.Tables.{table_of}
use Rattle.paper.specs.Rules.{rule_of}
use Rattle.blocks.specs.Held.{block_split}
use Rattle.rows.specs.declared.Marker.{Marker}
use Rattle.marks.proofs.mark_rows.Given as goal

pub record Marked (f : ℕ → ℕ) (marks : List ℕ) (counts : Counts) (i : ℕ) : Type 0 where
  pub done : take i marks ≡ tab f i
  pub counted : counts ≡ counts_of (tab f i)

-- The mark that row i is due.
abbrev pub due : Marker → ℕ → ℕ
due m = mark_of (rule_of m.terms.rule) (table_of m.sound.table) (block_split m.blocks.now m.terms.used m.terms.width)

abbrev pub invariant-loop-i : goal.invariant-loop-i
invariant-loop-i l = Marked (due l.marker) l.marks l.counts l.i
