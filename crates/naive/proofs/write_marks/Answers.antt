use mathlib.Core.Path.{ap, ◌∙◌}
use native.Mathlib.Omega.{arith}
use Rattle.lists.specs.Base.{bit}
use Rattle.lists.specs.CountLaws.{from_bool-bit}
use Rattle.lists.specs.TabLaws.{tab_none, tab_more}
use Rattle.paper.specs.Folds.{within}
use Rattle.naive.proofs.write_marks.Goals as goal

pub loop-i-init : goal.loop-i-init
loop-i-init c = tab_none _ c.args.marks.now

pub loop-i-preserved : goal.loop-i-preserved
loop-i-preserved c =
    let r = c.args.rows in
    let l = c.loop-i in
    tab_more (λ m. bit (within r.first r.past m)) l.marks l.i c.from.result (omega arith) l.invariant
    (c.from.ensures ∙ from_bool-bit c.contains.result ∙ ap bit c.contains.ensures)
