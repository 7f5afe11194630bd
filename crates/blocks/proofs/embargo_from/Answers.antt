use mathlib.Core.Path.{◌≡◌, sym, ap, ◌∙◌}
use mathlib.Core.Bool.{Bool, not, true, false}
use mathlib.Core.List.{List}
use Prim.Native.Nat.{ℕ, ◌<◌, ◌^◌}
use native.Mathlib.Omega.{arith}
use lib.IntN.{ℤ}
use lib.ListN.{length}
use lib.Signed.{mag, lt_z}
use mir.Syntax.{w64}
use mir.Val.{to_z, of_z}
use Rattle.lists.specs.FirstLaws.{first_skip, first_hit, first_end}
use Rattle.lists.specs.IntegerLaws.{lt_z_above, lt_z_not}
use Rattle.lists.specs.SignedLaws.{read, lt_read}
use Rattle.paper.specs.Spans.{reaches}
use Rattle.blocks.specs.Held.{time}
use Rattle.blocks.proofs.embargo_from.Goals as goal

-- Row i starts after `latest`.
abbrev after : List ℤ → ℤ → ℕ → Bool
after starts latest i = not (reaches (time starts i) latest)

after_yes :
    (l s : ℤ) → mag l < 2 ^ 63 → mag s < 2 ^ 63 → lt_z (to_z w64 (of_z w64 l)) (to_z w64 (of_z w64 s)) ≡ true →
    not (reaches s l) ≡ true
unfolding reaches
after_yes l s h k t = ap not (lt_z_above l s (sym (lt_read l s h k) ∙ t))

pub returns-then-latest-starts : goal.returns-then-latest-starts
returns-then-latest-starts c =
    let g = c.args in
    let fits = c.ranges.latest.sfits in
    sym
    (rw (read g.latest fits) at c.loop-i.invariant
    ∙ first_hit (after g.starts.now g.latest) (length g.starts.now) c.loop-i.i (omega arith)
    (after_yes g.latest (time g.starts.now c.loop-i.i) fits (omega arith) c.if-latest-starts.true))

after_no :
    (l s : ℤ) → mag l < 2 ^ 63 → mag s < 2 ^ 63 → lt_z (to_z w64 (of_z w64 l)) (to_z w64 (of_z w64 s)) ≡ false →
    not (reaches s l) ≡ false
unfolding reaches
after_no l s h k t = ap not (lt_z_not l s (sym (lt_read l s h k) ∙ t))

pub loop-i-preserved : goal.loop-i-preserved
loop-i-preserved c =
    let g = c.args in
    let fits = c.ranges.latest.sfits in
    c.loop-i.invariant
    ∙ first_skip (after g.starts.now (to_z w64 (of_z w64 g.latest))) (length g.starts.now) c.loop-i.i (omega arith)
    (rw (read g.latest fits)
    (after_no g.latest (time g.starts.now c.loop-i.i) fits (omega arith) c.if-latest-starts.false))

pub returns : goal.returns
returns c =
    let g = c.args in
    let z : c.loop-i.i ≡ length g.starts.now = omega arith in
    sym
    (rw (read g.latest c.ranges.latest.sfits, z) at c.loop-i.invariant
    ∙ first_end (after g.starts.now g.latest) (length g.starts.now) (length g.starts.now) (omega arith))
