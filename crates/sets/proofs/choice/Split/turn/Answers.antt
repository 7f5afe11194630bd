use mathlib.Core.Path.{◌≡◌}
use Prim.Native.Nat.{◌+◌, ◌-◌}
use native.Mathlib.Omega.{arith}
use Rattle.paper.specs.Handed.{list_of}
use Rattle.sets.proofs.NextLaws.{split_long, highest_start, highest_more, fold_at}
use Rattle.sets.proofs.choice.Split.turn.Goals as goal

pub loop-i-init : goal.loop-i-init
loop-i-init c = highest_start c.args.self.choice.n c.args.self.choice.k (list_of c.args.self.set) c.args.self.is

pub overflow_add-self : goal.overflow_add-self
overflow_add-self c = let b = fold_at c.args.self.set c.args.self.choice.n c.args.self.choice.k (c.loop-i.i - 1) c.args.self.is (omega arith) in omega arith

pub returns-then-self-i : goal.returns-then-self-i
returns-then-self-i c =
    let l = c.loop-i in
    let long = split_long c.args.self.choice.n c.args.self.choice.k (list_of c.args.self.set) c.args.self.is in
    let b = fold_at c.args.self.set c.args.self.choice.n c.args.self.choice.k (l.i - 1) c.args.self.is (omega arith) in
    let e : l.i - 1 + 1 ≡ l.i = omega arith in
    rw e (record { from = l.invariant; rises = λ some. omega arith })

pub loop-i-preserved : goal.loop-i-preserved
loop-i-preserved c =
    let b = fold_at c.args.self.set c.args.self.choice.n c.args.self.choice.k (c.loop-i.i - 1) c.args.self.is (omega arith) in
    highest_more c.args.self.choice.n c.args.self.choice.k (list_of c.args.self.set) c.args.self.is c.loop-i.i c.loop-i.invariant (omega arith) (omega arith)
