use mathlib.Core.Path.{sym}
use Rattle.paper.proofs.PathsMeaning.{nth_pth}
use Rattle.sets.proofs.PathLaws.{ahead_start}
use Rattle.sets.proofs.choice.Choice.split_on_path.Goals as goal

pub split_from-requires : goal.split_from-requires
split_from-requires c =
    let a = c.args.self in
    ahead_start a.n a.k c.args.p c.args.g a.small a.some c.requires.0 c.requires.1

pub returns : goal.returns
returns c = sym (nth_pth c.split_from.ensures)
