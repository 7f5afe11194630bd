use Rattle.paper.specs.Checks.{checked}
use Rattle.checks.proofs.refuse.refuse_if.Goals as goal

pub returns-then-due-clause-answer : goal.returns-then-due-clause-answer
unfolding checked
returns-then-due-clause-answer c = rw c.if-due.true

pub returns-else-due-clause-answer : goal.returns-else-due-clause-answer
unfolding checked
returns-else-due-clause-answer c = rw c.if-due.false
