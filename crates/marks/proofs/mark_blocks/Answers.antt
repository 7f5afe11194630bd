-- What `bound_blocks` leaves is what the pass asks for.
use Rattle.marks.proofs.WayLaws.{bound_split}
use Rattle.marks.proofs.mark_blocks.Goals as goal

pub returns : goal.returns
returns c =
    let g = c.args in
    rw (← bound_split g.sound.now.table g.blocks.now _ c.bound_blocks-blocks.ensures g.terms.used g.terms.width) c.mark_rows.ensures
