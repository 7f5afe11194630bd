use mathlib.Core.Path.{ap, ◌∙◌}
use mathlib.Core.Bool.{not}
use Prim.Native.Nat.{ℕ}
use native.Mathlib.Omega.{arith}
use Rattle.lists.specs.Base.{bit}
use Rattle.lists.specs.CountLaws.{from_bool-bit}
use Rattle.lists.specs.TabLaws.{tab_none, tab_more}
use Rattle.paper.specs.Spans.{span_of}
use Rattle.train_times.specs.Dropped.{dropped_by_some}
use Rattle.train_times.proofs.write_flags.Goals as goal

pub loop-i-init : goal.loop-i-init
loop-i-init c = tab_none _ c.args.flags.now

pub loop-i-preserved : goal.loop-i-preserved
loop-i-preserved c =
    let l = c.loop-i in
    let t = c.args.table.now in
    let u = c.args.tests.now in
    let f : ℕ → ℕ = λ i. bit (not (dropped_by_some u.starts.now u.ends.now (span_of t.starts.now t.ends.now i))) in
    tab_more f l.flags l.i c.from.result (omega arith) l.invariant
    (c.from.ensures ∙ from_bool-bit (not c.dropped_by_some.result)
    ∙ ap (λ b. bit (not b)) (c.dropped_by_some.ensures ∙ ap (dropped_by_some u.starts.now u.ends.now) c.span.ensures))
