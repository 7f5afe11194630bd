use Rattle.std.proofs.Common.{rules, arith}
use Rattle.paper.proofs.Times.{earlier}
use Rattle.blocks.proofs.RunLaws.{run_read}
use Rattle.blocks.proofs.earliest_start.Goals as goal

pub returns : goal.returns
unfolding earlier
returns c =
    run_read earlier c.args.starts.now c.args.rows.first c.args.rows.past c.fold.result (omega arith) (search rules) (omega arith) (omega arith)
