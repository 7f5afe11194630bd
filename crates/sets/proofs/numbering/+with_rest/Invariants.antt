-- Each call leaves one fold fewer to choose from.
use Rattle.sets.proofs.numbering.+with_rest.Given as goal

abbrev pub decreases-with_rest : goal.decreases-with_rest
decreases-with_rest l = l.n
