-- The folds of the set are ranges, in the order of the set.
use mathlib.Core.Path.{refl}
use native.Mathlib.Omega.{arith}
use Rattle.spans.specs.Tables.{table_of}
use Rattle.paper.specs.Rules.{rule_of}
use Rattle.layouts.proofs.LayoutLaws.{rewritten, set_ranges, set_marks}
use Rattle.layouts.proofs.mark_folds.Goals as goal

pub mark_ranges-requires : goal.mark_ranges-requires
mark_ranges-requires c =
    let p = c.requires in
    let r = c.fold_ranges-ranges.ensures in
    let ranges = rw c.len-used.ensures at r.ranges in
    record {
      long = p.fits;
      few = omega (arith, p.set_in.few, r.many);
      ranges = rw r.many (set_ranges p.set_in ranges);
    }

pub returns : goal.returns
returns c =
    let r = c.fold_ranges-ranges.ensures in
    let ranges = rw c.len-used.ensures at r.ranges in
    rewritten _ _ _ _
    (rw r.many (set_marks c.requires.set_in ranges (rule_of c.args.rule) (table_of c.args.sound.now.table) c.args.width refl))
    (rw c.len-used.ensures at c.mark_ranges.ensures)
