use native.Mathlib.Omega.{arith}
use Rattle.sets.proofs.PathLaws.{ahead_some, ahead_here, ahead_firsts, ahead_second, ahead_seconds, ahead_fits}
use Prim.Native.Nat.{◌-◌}
use Rattle.sets.proofs.paths.+split_from.Goals as goal

pub returns-then-first-g : goal.returns-then-first-g
returns-then-first-g t c =
    let some = ahead_some c.requires in
    ahead_here c.requires (c.args.n - 1) (c.args.k - 1) (omega arith) (omega arith) c.if-first-g.true

pub split_from-requires-else-p-both : goal.split_from-requires-else-p-both
split_from-requires-else-p-both t c =
    let some = ahead_some c.requires in
    let ne = c.if-first-g.false in
    (omega arith, ahead_second c.requires (c.args.n - 1) (c.args.k - 1) (omega arith) (omega arith) ne c.holding-both.result c.holding-both.ensures c.if-p-both.false)

pub overflow_add-result : goal.overflow_add-result
overflow_add-result t c =
    let some = ahead_some c.requires in
    let ne = c.if-first-g.false in
    let fits = ahead_fits c.requires (c.args.n - 1) (c.args.k - 1) (omega arith) (omega arith) ne c.n_choose_k.result _ c.split_from-else-p-both.result c.n_choose_k.ensures c.split_from-else-p-both.ensures in
    omega arith

pub returns-then-p-both : goal.returns-then-p-both
returns-then-p-both t c =
    let some = ahead_some c.requires in
    let ne = c.if-first-g.false in
    ahead_firsts c.requires (c.args.n - 1) (c.args.k - 1) (omega arith) (omega arith) ne c.split_from.result c.split_from.ensures

pub returns-else-p-both : goal.returns-else-p-both
returns-else-p-both t c =
    let some = ahead_some c.requires in
    let ne = c.if-first-g.false in
    ahead_seconds c.requires (c.args.n - 1) (c.args.k - 1) (omega arith) (omega arith) ne c.holding-both.result c.n_choose_k.result c.split_from-else-p-both.result c.holding-both.ensures c.if-p-both.false c.n_choose_k.ensures c.split_from-else-p-both.ensures
