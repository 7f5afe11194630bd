-- There is such a fold, and its marks are those of its range.
use mathlib.Core.Path.{sym, ap, ◌∙◌}
use lib.ListN.{length}
use Rattle.paper.specs.Marks.{counts_of}
use Rattle.naive.proofs.PlainCounts.{plain_bounds, plain_marks}
use Rattle.naive.proofs.mark_plain_fold.Goals as goal

pub mark_range-requires : goal.mark_range-requires
mark_range-requires c =
    plain_bounds c.args.n c.args.folds c.args.fold.0 (length c.args.marks.now) c.requires c.unwrap-rows.result (sym c.contiguous_fold_bounds.ensures ∙ c.unwrap-rows.ensures)

pub returns : goal.returns
returns c =
    let e = plain_marks c.args.n c.args.folds c.args.fold.0 (length c.args.marks.now) c.requires c.unwrap-rows.result (sym c.contiguous_fold_bounds.ensures ∙ c.unwrap-rows.ensures) in
    record { counts = c.mark_range.ensures.counts ∙ ap counts_of e; lent = c.mark_range.ensures.lent ∙ e }
