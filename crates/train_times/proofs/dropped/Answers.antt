-- A time handed over is read back from its bits.
use native.Mathlib.Omega.{arith}
use Rattle.std.proofs.lemmas.Grind.{common_steps}
use Rattle.lists.specs.SignedLaws.{read}
use Rattle.train_times.proofs.dropped.Goals as goal

pub returns-then-lies_in-2 : goal.returns-then-lies_in-2
returns-then-lies_in-2 c = grind (arith, common_steps, read)

pub returns-else-lies_in-2 : goal.returns-else-lies_in-2
returns-else-lies_in-2 c = grind (arith, common_steps, read)
