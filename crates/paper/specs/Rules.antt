-- The rule that a call is told, in the paper's terms (01, "Purge, embargo, marks").
use Rattle.paper.specs.Marks as marks
use Rattle.paper.specs.declared.rule.Rule.{Rule}
use Rattle.paper.specs.declared.rule.Rule.TheVariants.{Window, Pair}

abbrev pub rule_of : Rule → marks.Rule
rule_of Window = marks.by_window
rule_of Pair = marks.by_pair
