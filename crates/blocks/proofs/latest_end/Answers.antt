use Rattle.std.proofs.Common.{rules, arith}
use Rattle.paper.specs.Spans.{later}
use Rattle.blocks.proofs.RunLaws.{run_read}
use Rattle.blocks.proofs.latest_end.Goals as goal

pub returns : goal.returns
unfolding later
returns c =
    run_read later c.args.ends.now c.args.rows.first c.args.rows.past c.fold.result (omega arith) (search rules) (omega arith) (omega arith)
