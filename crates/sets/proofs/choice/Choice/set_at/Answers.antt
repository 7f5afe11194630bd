use mathlib.Core.Path.{refl}
use native.Mathlib.Omega.{arith}
use Rattle.paper.proofs.Listing.{choose_room}
use Rattle.sets.proofs.choice.Choice.set_at.Goals as goal

-- The set with no fold is what was handed out for the empty list.
pub with_rest-requires : goal.with_rest-requires
with_rest-requires c =
    let small = c.args.self.small in
    let few = choose_room c.args.self.n c.args.self.k c.args.number c.requires in
    rw c.none.ensures (record { tidy = refl; room = omega arith; small = omega arith; within = c.requires })

pub returns : goal.returns
returns c = rw c.none.ensures at c.with_rest.ensures
