use lib.ListN.{length}
use Rattle.naive.proofs.PlainCounts.{plain_counts}
use Rattle.naive.proofs.mark_range.Goals as goal

pub returns-clause-counts : goal.returns-clause-counts
returns-clause-counts c =
    let r = c.args.rows in
    rw c.write_marks.auto.marks (plain_counts r.first r.past (length c.args.marks.now) c.requires.0 c.requires.1)
