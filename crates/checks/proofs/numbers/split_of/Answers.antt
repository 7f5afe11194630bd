use Rattle.checks.proofs.ReadyLaws.{split_or}
use Rattle.checks.proofs.numbers.split_of.Goals as goal

pub returns-clause-answer : goal.returns-clause-answer
returns-clause-answer c =
    let a = c.args in
    rw c.ok_or.ensures.value (split_or a.choice.n a.choice.k a.set c.split.result c.split.ensures)
