-- Each way out has the mark that `row_marked` gives for what was tested.
use mathlib.Core.Path.{sym, ap₂, ◌∙◌}
use mathlib.Core.Bool.{false}
use lib.Dec.{leb}
use borrow.Author.Tests.{le-leb, lt-leb}
use Rattle.paper.specs.Marks.{mark}
use Rattle.rows.proofs.RowLaws.{row_marked}
use Rattle.rows.proofs.Marker.row_mark.Goals as goal

pub returns-then-tested : goal.returns-then-tested
returns-then-tested c =
    let m = c.args.self.now in
    rw (row_marked m.terms.rule m.held (leb m.terms.used) m.terms.width c.args.i, sym c.tested.ensures ∙ c.if-tested.true)

pub returns-then-self-i : goal.returns-then-self-i
returns-then-self-i c =
    let m = c.args.self.now in
    rw (
      row_marked m.terms.rule m.held (leb m.terms.used) m.terms.width c.args.i,
      sym c.tested.ensures ∙ c.if-tested.false,
      le-leb m.terms.used c.args.i c.if-self-i.true,
    )

pub returns : goal.returns
returns c =
    let m = c.args.self.now in
    rw (
      row_marked m.terms.rule m.held (leb m.terms.used) m.terms.width c.args.i,
      sym c.tested.ensures ∙ c.if-tested.false,
      lt-leb m.terms.used c.args.i c.if-self-i.false,
    )
    (c.left_mark.ensures
    ∙ ap₂ (mark false false)
    (rw c.span.ensures at c.purged.ensures)
    c.embargoed.ensures)
