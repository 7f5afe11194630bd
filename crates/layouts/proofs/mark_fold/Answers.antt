-- The fold is one range, from its border to the next.
use mathlib.Core.Path.{refl, ap}
use Rattle.spans.specs.Tables.{table_of, rows_in}
use Rattle.paper.specs.Rules.{rule_of}
use Rattle.layouts.proofs.LayoutLaws.{rewritten, fold-fits, kfold_marks_lem}
use Rattle.layouts.proofs.mark_fold.Goals as goal

pub mark_range-requires : goal.mark_range-requires
mark_range-requires c =
    let g = c.args in
    record {
      fits = c.requires.fits;
      rows_in_bounds =
          rw (c.fold_rows-rows.ensures, c.len-used.ensures) (fold-fits (rows_in g.sound.now.table) g.folds g.fold.0 c.requires.fold_in);
    }

pub returns : goal.returns
returns c =
    let g = c.args in
    let rows = rw c.len-used.ensures at c.fold_rows-rows.ensures in
    rewritten _ _ _ _
    (kfold_marks_lem (rows_in g.sound.now.table) g.folds g.fold.0 c.requires.fold_in _ _ (ap (λ r. r.first) rows)
    (ap (λ r. r.past) rows) (rule_of g.rule) (table_of g.sound.now.table) g.width refl)
    (rw c.len-used.ensures at c.mark_range.ensures)
