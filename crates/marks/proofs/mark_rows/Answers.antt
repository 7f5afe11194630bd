use mathlib.Core.Path.{◌≡◌, sym, ◌∙◌}
use Prim.Native.Nat.{ℕ, ◌≤◌, ◌<◌}
use native.Mathlib.Omega.{arith}
use lib.ListN.{length}
use Rattle.lists.specs.TabLaws.{tab_none, tab_more, tab_all}
use Rattle.paper.specs.declared.answers.Counts.{Counts}
use Rattle.laws.specs.MarkCounts.{no_counts, AtMost, counts_of_zero, counts_of_more, counts_of-le}
use Rattle.marks.proofs.mark_rows.Goals as goal
use Rattle.marks.proofs.mark_rows.Goals.{After-default-counts}

-- A default counts nothing.
none : (c : After-default-counts) → c.default-counts.result ≡ no_counts
none c =
    let d = c.default-counts.ensures in
    λ i. record { train = d.0 i; test = d.1.0 i; purged = d.1.1.0 i; embargoed = d.1.1.1 i }

pub loop-i-init : goal.loop-i-init
loop-i-init c = record { done = tab_none _ c.args.marks.now; counted = none c ∙ sym (counts_of_zero _) }

few : (c : Counts) (i n : ℕ) → i ≤ n → AtMost c i → AtMost c n
few c i n h a = record { train = omega arith; test = omega arith; purged = omega arith; embargoed = omega arith }

pub one_more-counts-requires : goal.one_more-counts-requires
one_more-counts-requires c =
    let l = c.loop-i in
    let small = c.args.marker.now.sound.few in
    few l.counts l.i 1048576 (omega arith) (rw l.invariant.counted (counts_of-le _ l.i))

pub loop-i-preserved : goal.loop-i-preserved
loop-i-preserved c =
    let l = c.loop-i in
    let here : l.i < length l.marks = omega arith in
    record {
      done = tab_more _ l.marks l.i _ here l.invariant.done c.row_mark-m.ensures;
      counted = c.one_more-counts.ensures ∙ rw (l.invariant.counted, c.row_mark-m.ensures) (sym (counts_of_more _ l.i));
    }

pub returns : goal.returns
returns c =
    let l = c.loop-i in
    let z : l.i ≡ length c.args.marker.now.sound.table.starts.now = omega arith in
    record { marked = tab_all _ l.marks l.i _ l.invariant.done (omega arith) z; counted = rw z at l.invariant.counted }
