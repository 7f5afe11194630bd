-- One range, in a list of its own.
use mathlib.Core.Path.{refl}
use native.Mathlib.Omega.{arith}
use Rattle.spans.specs.Tables.{table_of, rows_in}
use Rattle.paper.specs.Rules.{rule_of}
use Rattle.layouts.proofs.LayoutLaws.{rewritten, one_ranges, one_marks}
use Rattle.layouts.proofs.mark_range.Goals as goal

pub mark_ranges-requires : goal.mark_ranges-requires
mark_ranges-requires c =
    let r = c.args.rows in
    let p = c.requires in
    record {
      long = p.fits;
      few = omega arith;
      ranges = one_ranges _ _ r.first r.past refl refl (rows_in c.args.sound.now.table) p.rows_in_bounds.0 p.rows_in_bounds.1;
    }

pub returns : goal.returns
returns c =
    let t = c.args.terms in
    let r = c.args.rows in
    rewritten _ _ _ _
    (one_marks _ _ r.first r.past refl refl (rule_of t.rule) (table_of c.args.sound.now.table) t.used t.width)
    c.mark_ranges.ensures
