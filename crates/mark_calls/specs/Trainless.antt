-- Refusal 17 as the counts tell it (01, "Refusal numbers"): the count of training rows is 0. `empty_train` says the same of the
-- marks.
use Rattle.std.specs.Prelude.{List, [], ◌∷◌, eqb}
use Rattle.paper.specs.declared.answers.Counts.{Counts}
use Rattle.paper.specs.Marks.{Rule, by_window, by_pair}
use Rattle.paper.specs.Checks.{Check, bare}

abbrev pub trainless : Rule → Counts → List Check
trainless by_window counts = []
trainless by_pair counts = bare 17 (eqb counts.train 0) ∷ []
