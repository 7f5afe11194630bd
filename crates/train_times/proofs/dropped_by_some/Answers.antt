use mathlib.Core.Path.{◌≡◌, refl, sym, ◌∙◌}
use mathlib.Core.Bool.{Bool, false}
use Prim.Native.Nat.{ℕ}
use native.Mathlib.Omega.{arith}
use Rattle.std.proofs.Common.{rules, tests}
use Rattle.std.proofs.lemmas.Iterator.{YieldsList-from_range}
use Rattle.std.proofs.lemmas.Iterator.Search.{any_from_yields_List}
use lib.Dec.{ltb}
use lib.ListN.{length}
use Rattle.lists.specs.AnyLaws.{any_none}
use Rattle.paper.specs.Spans.{span_of, drops}
use Rattle.train_times.proofs.AnyRange.{any_range}
use Rattle.train_times.proofs.dropped_by_some.Goals as goal

pub returns-then-len-gt0 : goal.returns-then-len-gt0
returns-then-len-gt0 c =
    let t = c.args.tests.now in
    let p : ℕ → Bool = λ j. drops (span_of t.starts.now t.ends.now j) c.args.a in
    any_from_yields_List p c.any.new.self _ c.any.result c.any.ensures.ran
    (YieldsList-from_range 0 c.len-then-len-gt0.result (length t.starts.now) refl (omega arith))
    (λ x b q k. search (rules, tests))
    ∙ any_range p (length t.starts.now)

pub returns-else-len-gt0 : goal.returns-else-len-gt0
returns-else-len-gt0 c =
    let t = c.args.tests.now in
    let none : ltb 0 c.len.result ≡ false = search (rules, tests) in
    none ∙ sym (any_none (λ j. drops (span_of t.starts.now t.ends.now j) c.args.a) (length t.starts.now) (λ j l. absurd (omega arith)))
