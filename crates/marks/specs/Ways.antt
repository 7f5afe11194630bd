-- By which rule to work out the marks: where starts never decrease, the window rule gives the pair rule's.
use Rattle.std.specs.Prelude.{Bool, true, false}
use Rattle.paper.specs.declared.rule.Rule.{Rule}
use Rattle.paper.specs.declared.rule.Rule.TheVariants.{Window, Pair}

-- The second argument: do starts ever decrease?
abbrev pub way_of : Rule → Bool → Rule
way_of Window fall = Window
way_of Pair true = Pair
way_of Pair false = Window
