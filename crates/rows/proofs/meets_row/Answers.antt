use mathlib.Core.Path.{◌≡◌, sym, ◌∙◌}
use native.Mathlib.Omega.{arith}
use Rattle.lists.specs.AnyLaws.{any_from_zero, any_from-here, any_from_miss}
use Rattle.spans.specs.Tables.{table_of}
use Rattle.rows.specs.Asked.{meets_at}
use Rattle.rows.proofs.meets_row.Goals as goal

pub loop-i-init : goal.loop-i-init
loop-i-init c = any_from_zero (meets_at (table_of c.args.table.now) c.args.a) c.args.rows.first

pub returns-then-intervals_overlap : goal.returns-then-intervals_overlap
returns-then-intervals_overlap c =
    let g = c.args in
    let here = rw c.span.ensures at c.intervals_overlap.ensures in
    sym
    (any_from-here (meets_at (table_of g.table.now) g.a) g.rows.first g.rows.past c.loop-i.i (omega arith) (omega arith)
    (sym here ∙ c.if-intervals_overlap.true))

pub loop-i-preserved : goal.loop-i-preserved
loop-i-preserved c =
    let g = c.args in
    let here = rw c.span.ensures at c.intervals_overlap.ensures in
    any_from_miss (meets_at (table_of g.table.now) g.a) g.rows.first c.loop-i.i (omega arith) c.loop-i.invariant
    (sym here ∙ c.if-intervals_overlap.false)

pub returns : goal.returns
returns c =
    let z : c.loop-i.i ≡ c.args.rows.past = omega arith in
    sym (rw z at c.loop-i.invariant)
