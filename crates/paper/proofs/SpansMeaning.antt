-- What the tests of spans mean (01, "Rows, times, settings"): overlap goes both ways, a span in order overlaps itself, a span
-- passes unless it ends before its start, and the three ways in which `ml_get_train_times` drops a span.
use mathlib.Core.Path.{◌≡◌, refl}
use mathlib.Core.Bool.{Bool, true, false, ◌&&◌, ◌||◌, not, and_comm}
use lib.IntN.{ℤ, pos}
use lib.Signed.{le_z, lt_z}
use Rattle.lists.specs.AnyLaws.{never}
use Rattle.lists.specs.IntegerLaws.{le_z_trans, lt_z_le_z, lt_z_not, lt_z_above}
use Rattle.paper.specs.declared.span.Span.{Span}
use Rattle.paper.specs.Spans.{Table, reaches, good, overlap, drops}

pub overlap_symmetric : (a b : Span) → overlap a b ≡ overlap b a
overlap_symmetric a b = and_comm (reaches a.start b.end) (reaches b.start a.end)

pub overlap_self : (a : Span) → reaches a.start a.end ≡ true → overlap a a ≡ true
overlap_self a h = rw h

abbrev span : ℤ → ℤ → Span
span s e = record { start = s; end = e }

-- Dropped, though the two do not overlap.
pub drops_backward : (drops (span (pos 3) (pos 5)) (span (pos 4) (pos 1)) ≡ true) × (overlap (span (pos 4) (pos 1)) (span (pos 3) (pos 5)) ≡ false)
unfolding reaches
drops_backward = (refl, refl)

-- Each of the three ways to be dropped is needed.
pub drops_ways :
    (drops (span (pos 3) (pos 5)) (span (pos 4) (pos 9)) ≡ true) × (drops (span (pos 3) (pos 5)) (span (pos 1) (pos 4)) ≡ true)
    × (drops (span (pos 3) (pos 5)) (span (pos 1) (pos 9)) ≡ true)
drops_ways = (refl, refl, refl)

-- Where both spans are in order, those are dropped that overlap. The six tests of times, from left to right as `drops` makes
-- them, are not free of each other.
drops_rule :
    (p q r s u v : Bool) → (s ≡ true → q ≡ true) → (u ≡ true → q ≡ true) → (p ≡ true → r ≡ true) → (v ≡ true → r ≡ true) →
    (p ≡ false → u ≡ true) → (s ≡ false → v ≡ true) → p && q || r && s || u && v ≡ q && r
drops_rule true true true s u v sq uq pr vr pu sv = refl
drops_rule true true false s u v sq uq pr vr pu sv = never (pr refl) refl
drops_rule true false r true u v sq uq pr vr pu sv = never (sq refl) refl
drops_rule true false r false true v sq uq pr vr pu sv = never (uq refl) refl
drops_rule true false true false false v sq uq pr vr pu sv = refl
drops_rule true false false false false v sq uq pr vr pu sv = refl
drops_rule false q r s false v sq uq pr vr pu sv = never (pu refl) refl
drops_rule false false r s true v sq uq pr vr pu sv = never (uq refl) refl
drops_rule false true true true true v sq uq pr vr pu sv = refl
drops_rule false true true false true true sq uq pr vr pu sv = refl
drops_rule false true true false true false sq uq pr vr pu sv = never (sv refl) refl
drops_rule false true false s true true sq uq pr vr pu sv = never (vr refl) refl
drops_rule false true false s true false sq uq pr vr pu sv = refl

pub drops-overlap : (t a : Span) → le_z t.start t.end ≡ true → le_z a.start a.end ≡ true → drops t a ≡ overlap a t
unfolding reaches
drops-overlap t a h k =
    drops_rule (le_z t.start a.start) (le_z a.start t.end) (le_z t.start a.end) (le_z a.end t.end)
    (le_z a.start t.start) (le_z t.end a.end)
    (le_z_trans a.start a.end t.end k)
    (λ e. le_z_trans a.start t.start t.end e h)
    (λ e. le_z_trans t.start a.start a.end e k)
    (le_z_trans t.start t.end a.end h)
    (le_z_else t.start a.start)
    (le_z_else a.end t.end)
  where
    le_z_else : (x y : ℤ) → le_z x y ≡ false → le_z y x ≡ true
    le_z_else x y f = go (lt_z y x) refl
      where
        go : (b : Bool) → lt_z y x ≡ b → le_z y x ≡ true
        go true e = lt_z_le_z y x e
        go false e = never (lt_z_not y x e) f

-- In a test span that ends before its start no time lies. It drops what starts no later and ends no earlier than it does.
pub drops_backward_test :
    (drops (span (pos 5) (pos 3)) (span (pos 4) (pos 4)) ≡ true) × (drops (span (pos 5) (pos 3)) (span (pos 5) (pos 4)) ≡ true)
    × (drops (span (pos 5) (pos 3)) (span (pos 4) (pos 3)) ≡ true) × (drops (span (pos 5) (pos 3)) (span (pos 6) (pos 4)) ≡ false)
    × (drops (span (pos 5) (pos 3)) (span (pos 4) (pos 2)) ≡ false)
drops_backward_test = (refl, refl, refl, refl, refl)

-- A span passes unless its end is before its start.
pub good_is : (T : Table) (a : Span) → good T a ≡ not (lt_z a.end a.start)
unfolding reaches
good_is T a = go (lt_z a.end a.start) refl
  where
    go : (t : Bool) → lt_z a.end a.start ≡ t → le_z a.start a.end ≡ not t
    go true h = lt_z_above a.end a.start h
    go false h = lt_z_not a.end a.start h
