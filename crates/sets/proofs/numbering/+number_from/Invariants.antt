-- Each call leaves one fold fewer to choose from.
use Rattle.sets.proofs.numbering.+number_from.Given as goal

abbrev pub decreases-number_from : goal.decreases-number_from
decreases-number_from l = l.n
