-- The enum tells the rule; a time is read back from its bits.
use mathlib.Core.Path.{◌∙◌}
use Rattle.std.proofs.Common.{arith}
use Rattle.lists.specs.SignedLaws.{read}
use Rattle.blocks.specs.Held.{time}
use Rattle.blocks.proofs.lower.Goals as goal

pub returns-in-Window : goal.returns-in-Window
returns-in-Window c =
    let g = c.args in
    read (time g.starts.now g.rows.first) (omega arith) ∙ rw c.in-Window.is

pub returns-in-Pair : goal.returns-in-Pair
returns-in-Pair c =
    read c.earliest_start.result c.earliest_start.type_inv ∙ c.earliest_start.ensures ∙ rw c.in-Pair.is
