use native.Mathlib.Omega.{arith}
use Rattle.sets.proofs.NumberingLaws.{tail_end, place_fits, tail_some, tail_first, tail_firsts, tail_second, tail_seconds}
use Prim.Native.Nat.{◌-◌}
use Rattle.sets.proofs.numbering.+number_from.Goals as goal

pub returns-then-at-k : goal.returns-then-at-k
returns-then-at-k t c = tail_end c.requires c.if-at-k.true

pub number_from-requires : goal.number_from-requires
number_from-requires t c =
    let ne = c.if-at-k.false in
    let some = tail_some c.requires ne in
    (omega arith, tail_first c.requires ne (c.args.n - 1) (omega arith) c.if-set-at.true)

pub number_from-requires-else-set-at : goal.number_from-requires-else-set-at
number_from-requires-else-set-at t c =
    let ne = c.if-at-k.false in
    let some = tail_some c.requires ne in
    (omega arith, tail_second c.requires ne (c.args.n - 1) (omega arith) c.if-set-at.false)

pub overflow_add-result : goal.overflow_add-result
overflow_add-result t c =
    let ne = c.if-at-k.false in
    let some = tail_some c.requires ne in
    let fits = place_fits _ (tail_seconds c.requires ne (c.args.n - 1) (omega arith) c.n_choose_k.result c.number_from-else-set-at.result c.n_choose_k.ensures c.number_from-else-set-at.ensures) (omega arith) in
    omega arith

pub returns-then-set-at : goal.returns-then-set-at
returns-then-set-at t c =
    let ne = c.if-at-k.false in
    let some = tail_some c.requires ne in
    tail_firsts c.requires ne (c.args.n - 1) (omega arith) c.if-set-at.true c.number_from.result c.number_from.ensures

pub returns-else-set-at : goal.returns-else-set-at
returns-else-set-at t c =
    let ne = c.if-at-k.false in
    let some = tail_some c.requires ne in
    tail_seconds c.requires ne (c.args.n - 1) (omega arith) c.n_choose_k.result c.number_from-else-set-at.result c.n_choose_k.ensures c.number_from-else-set-at.ensures
