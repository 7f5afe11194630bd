-- The rows from b on, cut at the last row.
use mathlib.Core.Path.{ap}
use Prim.Native.Nat.{◌+◌}
use Rattle.paper.specs.Marks.{by_pair}
use Rattle.spans.specs.Tables.{table_of}
use Rattle.layouts.proofs.LayoutLaws.{rewritten, rolling_cut}
use Rattle.layouts.proofs.mark_rolling.Goals as goal

pub returns : goal.returns
returns c =
    let g = c.args in
    rewritten _ _ _ _
    (rolling_cut by_pair (table_of g.sound.now.table) g.b g.size _ (ap (λ v. g.b + v) (rw c.len.ensures at c.min.ensures)) c.requires.b_in_bounds.0)
    c.mark_range.ensures
