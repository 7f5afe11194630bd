use Rattle.row_checks.proofs.TableLaws.{table_or}
use Rattle.row_checks.proofs.groups.lengths.Goals as goal

pub returns-clause-answer : goal.returns-clause-answer
returns-clause-answer c = rw c.ok_or.ensures.value (table_or c.args.starts.now c.args.ends.now c.new.result c.new.ensures)
