-- Each call leaves one fold fewer to choose from.
use Rattle.sets.proofs.paths.+split_from.Given as goal

abbrev pub decreases-split_from : goal.decreases-split_from
decreases-split_from l = l.n
