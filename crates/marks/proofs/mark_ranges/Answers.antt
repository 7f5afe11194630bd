-- The ranges are joined, the rule to work by is chosen, and neither changes the marks.
use native.Mathlib.Omega.{arith}
use lib.Dec.{leb}
use Rattle.marks.proofs.WayLaws.{blocks_written}
use Rattle.marks.proofs.mark_ranges.Goals as goal

pub mark_blocks-requires : goal.mark_blocks-requires
mark_blocks-requires c =
    let p = c.requires in
    let j = c.merge_adjacent-blocks.ensures in
    record { fits = p.long; blocks_bound = (omega (arith, p.few, j.few), (j.joined _ p.ranges).blocks) }

pub returns : goal.returns
returns c =
    let g = c.args in
    let t = g.sound.now.table in
    blocks_written t.starts.now t.ends.now c.args.sound.now.good (c.merge_adjacent-blocks.ensures.joined _ c.requires.ranges)
    g.terms.rule _ (leb g.terms.used) _ _ _ c.way-rule.ensures c.mark_blocks.ensures
