use Rattle.paper.specs.Handed.{list_of}
use Rattle.sets.proofs.HandedLaws.{with_fold}
use Rattle.sets.proofs.numbering.with_fold.Goals as goal

pub returns : goal.returns
returns c = with_fold c.args.set (list_of c.args.set) c.args.fold c.requires.0 c.requires.1
