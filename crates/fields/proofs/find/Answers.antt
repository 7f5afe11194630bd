-- The first place that holds the byte, or the end.
use Rattle.std.proofs.Common.{rules, tests}
use Rattle.std.proofs.lemmas.Iterator.{first_from_Range}
use Rattle.fields.proofs.FindLaws.{find_is, Here, Other}
use Rattle.fields.proofs.find.Goals as goal

pub returns : goal.returns
returns c =
    let g = c.args in
    rw (c.unwrap_or.ensures, c.max.ensures) (find_is g.byte g.s.now g.from c.find.result
    (first_from_Range _ _ _ c.find.result (Here g.byte g.s.now g.from) (Other g.byte g.s.now g.from) c.find.ensures.ran (λ x q k. search (rules, tests)) (λ x q k. search (rules, tests))))
