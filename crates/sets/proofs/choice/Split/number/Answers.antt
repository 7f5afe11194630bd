use Rattle.sets.proofs.NumberingLaws.{tail_start, place_number}
use Rattle.sets.proofs.choice.Split.number.Goals as goal

pub number_from-requires : goal.number_from-requires
number_from-requires c = tail_start c.args.self.set c.args.self.choice.n c.args.self.choice.k c.args.self.choice.small c.args.self.is

pub returns : goal.returns
returns c =
    place_number c.args.self.set c.args.self.choice.n c.args.self.choice.k c.number_from.result c.args.self.is c.number_from.ensures
