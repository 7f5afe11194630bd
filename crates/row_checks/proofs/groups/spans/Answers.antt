use lib.Dec.{ltb}
use lib.ListN.{length}
use Rattle.paper.specs.Spans.{table}
use Rattle.laws.specs.Windows.{good_table}
use Rattle.paper.specs.Checks.{checked}
use Rattle.scans.specs.FirstBackward.{first_backward}
use Rattle.row_checks.proofs.TableLaws.{some_where, none_where}
use Rattle.row_checks.proofs.groups.spans.Goals as goal

pub returns-in-Some-clause-answer : goal.returns-in-Some-clause-answer
unfolding checked
returns-in-Some-clause-answer c =
    let t = c.args.table.now in
    let f = first_backward t.starts.now t.ends.now in
    let s = some_where (ltb f (length t.starts.now)) f c.in-Some.row c.in-Some.ensures in
    rw (s.0, s.1)

pub returns-in-None-clause-answer : goal.returns-in-None-clause-answer
unfolding checked
returns-in-None-clause-answer c =
    let t = c.args.table.now in
    let f = first_backward t.starts.now t.ends.now in
    rw (none_where (ltb f (length t.starts.now)) f c.in-None.ensures)

pub returns-in-None-clause-passed : goal.returns-in-None-clause-passed
returns-in-None-clause-passed c =
    let t = c.args.table.now in
    let f = first_backward t.starts.now t.ends.now in
    good_table (table t.starts.now t.ends.now) (none_where (ltb f (length t.starts.now)) f c.in-None.ensures)
