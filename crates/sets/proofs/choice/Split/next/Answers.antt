use mathlib.Core.Path.{sym}
use native.Mathlib.Omega.{arith}
use lib.ListN.{take}
use lib.Seq.{length-take-le}
use Rattle.paper.specs.Handed.{list_of}
use Rattle.sets.proofs.HandedLaws.{handed_tidy, handed-count}
use Rattle.sets.proofs.NextLaws.{turn_room, next_last, next_made}
use Rattle.sets.proofs.choice.Split.next.Goals as goal

pub returns-in_default : goal.returns-in_default
returns-in_default c =
    sym (next_last c.args.self.choice.n c.args.self.choice.k (list_of c.args.self.set) c.args.self.is c.in_default.ensures.from)

pub offset_bounds-self-at : goal.offset_bounds-self-at
offset_bounds-self-at c = let r = turn_room c.args.self.set c.args.self.choice.n c.args.self.choice.k c.in-Some.at c.args.self.choice.small c.args.self.is c.in-Some.ensures in omega arith

pub bounds-self-at : goal.bounds-self-at
bounds-self-at c = let r = turn_room c.args.self.set c.args.self.choice.n c.args.self.choice.k c.in-Some.at c.args.self.choice.small c.args.self.is c.in-Some.ensures in omega arith

pub overflow_add-rising : goal.overflow_add-rising
overflow_add-rising c = let r = turn_room c.args.self.set c.args.self.choice.n c.args.self.choice.k c.in-Some.at c.args.self.choice.small c.args.self.is c.in-Some.ensures in omega arith

pub beginning-requires : goal.beginning-requires
beginning-requires c = let r = turn_room c.args.self.set c.args.self.choice.n c.args.self.choice.k c.in-Some.at c.args.self.choice.small c.args.self.is c.in-Some.ensures in (omega arith, omega arith)

pub with_run-requires : goal.with_run-requires
with_run-requires c =
    let at = c.in-Some.at in
    let front = take at (list_of c.args.self.set) in
    let r = turn_room c.args.self.set c.args.self.choice.n c.args.self.choice.k at c.args.self.choice.small c.args.self.is c.in-Some.ensures in
    let count = handed-count front c.beginning.ensures in
    let taken = length-take-le at (list_of c.args.self.set) (omega arith) in
    (handed_tidy front c.beginning.ensures, omega arith, omega arith)

pub returns : goal.returns
returns c =
    next_made c.args.self.set c.args.self.choice.n c.args.self.choice.k c.in-Some.at c.beginning.result c.with_run.result
    c.args.self.is c.in-Some.ensures c.beginning.ensures c.with_run.ensures
