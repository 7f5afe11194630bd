-- The two tests of the code are the two of `overlap`; a time that is kept as bits is read back.
use Prim.Native.Nat.{◌<◌, ◌^◌}
use native.Mathlib.Omega.{arith}
use lib.Signed.{mag}
use Rattle.lists.specs.SignedLaws.{le-and_taken, le-and_left}
use Rattle.paper.specs.Spans.{reaches}
use Rattle.spans.proofs.intervals_overlap.Goals as goal

pub returns-then-a-b : goal.returns-then-a-b
unfolding reaches
returns-then-a-b c =
    let g = c.args in
    let a_start : mag g.a.start < 2 ^ 63 = omega arith in
    let a_end : mag g.a.end < 2 ^ 63 = omega arith in
    let b_start : mag g.b.start < 2 ^ 63 = omega arith in
    let b_end : mag g.b.end < 2 ^ 63 = omega arith in
    le-and_taken g.a.start g.b.end g.b.start g.a.end a_start b_end b_start a_end c.if-a-b.true

pub returns-else-a-b : goal.returns-else-a-b
unfolding reaches
returns-else-a-b c =
    let g = c.args in
    let a_start : mag g.a.start < 2 ^ 63 = omega arith in
    let b_end : mag g.b.end < 2 ^ 63 = omega arith in
    le-and_left g.a.start g.b.end g.b.start g.a.end a_start b_end c.if-a-b.false
