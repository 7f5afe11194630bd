use borrow.Author.Tests.{eq-eqb, ne_eqb}
use Rattle.paper.specs.Checks.{checked}
use Rattle.mark_calls.proofs.outcome.trained.Goals as goal

pub returns-in-Pair : goal.returns-in-Pair
unfolding checked
returns-in-Pair c = rw (c.in-Pair.is, eq-eqb _ _ c.if-counts-eq0.true)

pub returns-in_default : goal.returns-in_default
unfolding checked
returns-in_default c = rw (c.in-Pair.is, ne_eqb _ _ c.if-counts-eq0.false)

pub returns-in_default-2 : goal.returns-in_default-2
unfolding checked
returns-in_default-2 c = rw c.in_default.is
