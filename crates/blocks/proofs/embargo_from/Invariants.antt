-- A search from row e on. The code's test is the negation of the paper's.
use mathlib.Core.Path.{◌≡◌}
use Rattle.blocks.specs.Held.{steps_to}
use Rattle.blocks.proofs.embargo_from.Given as goal

abbrev pub invariant-loop-i : goal.invariant-loop-i
invariant-loop-i l = steps_to l.starts l.latest l.e ≡ steps_to l.starts l.latest l.i
