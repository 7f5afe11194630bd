-- The fold is one range, from its border to the next.
use mathlib.Core.Path.{ap}
use Rattle.paper.specs.Marks.{by_window}
use Rattle.spans.specs.Tables.{table_of, rows_in}
use Rattle.layouts.proofs.LayoutLaws.{rewritten, fold-fits, forward-marks}
use Rattle.layouts.proofs.mark_walk_forward.Goals as goal

pub mark_range-requires : goal.mark_range-requires
mark_range-requires c =
    let g = c.args in
    record {
      fits = c.requires.fits;
      rows_in_bounds =
          rw (c.fold_rows-rows.ensures, c.len.ensures) (fold-fits (rows_in g.sound.now.table) g.folds g.fold.0 c.requires.fold_in);
    }

pub returns : goal.returns
returns c =
    let g = c.args in
    let rows = rw c.len.ensures at c.fold_rows-rows.ensures in
    rewritten _ _ _ _
    (forward-marks (rows_in g.sound.now.table) g.folds g.fold.0 c.requires.fold_in _ _ (ap (λ r. r.first) rows)
    (ap (λ r. r.past) rows) by_window (table_of g.sound.now.table))
    c.mark_range.ensures
