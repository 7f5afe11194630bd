use native.Mathlib.Omega.{arith}
use Rattle.sets.proofs.NumberingLaws.{rest_some, rest_end, rest_first, rest_firsts, rest_second, rest_seconds}
use Prim.Native.Nat.{◌-◌}
use Rattle.sets.proofs.numbering.+with_rest.Goals as goal

pub returns-then-k-eq0 : goal.returns-then-k-eq0
returns-then-k-eq0 t c = rest_end c.requires c.if-k-eq0.true

pub with_rest-requires : goal.with_rest-requires
with_rest-requires t c =
    let some = rest_some c.requires in
    (omega arith, rest_first c.requires (c.args.n - 1) (c.args.k - 1) (omega arith) (omega arith) c.with_fold.result c.with_fold.ensures (rw c.n_choose_k-hold_first.ensures at c.if-number-hold_first.true))

pub with_rest-requires-else-number-hold_first : goal.with_rest-requires-else-number-hold_first
with_rest-requires-else-number-hold_first t c =
    let some = rest_some c.requires in
    (omega arith, rest_second c.requires (c.args.n - 1) (c.args.k - 1) (omega arith) (omega arith) c.n_choose_k-hold_first.result c.n_choose_k-hold_first.ensures c.if-number-hold_first.false)

pub returns-then-number-hold_first : goal.returns-then-number-hold_first
returns-then-number-hold_first t c =
    let some = rest_some c.requires in
    rest_firsts c.requires (c.args.n - 1) (c.args.k - 1) (omega arith) (omega arith) c.with_fold.result c.with_rest.result c.with_fold.ensures (rw c.n_choose_k-hold_first.ensures at c.if-number-hold_first.true) c.with_rest.ensures

pub returns-else-number-hold_first : goal.returns-else-number-hold_first
returns-else-number-hold_first t c =
    let some = rest_some c.requires in
    rest_seconds c.requires (c.args.n - 1) (c.args.k - 1) (omega arith) (omega arith) c.n_choose_k-hold_first.result c.with_rest-else-number-hold_first.result c.n_choose_k-hold_first.ensures c.if-number-hold_first.false c.with_rest-else-number-hold_first.ensures
