-- The calls on layouts by split number, as the paper's `Layouts` says it. Of walk-forward and rolling nothing is to show:
-- `walk_forward` is `forward_fold` at m + s, and `rolling` is `forward` at a + s · step.
use mathlib.Core.Path.{◌≡◌, refl, ap, ap₂, ◌∙◌}
use Prim.Native.Nat.{ℕ, ◌+◌, ◌*◌, ◌≤◌, ◌<◌}
use native.Mathlib.Omega.{arith}
use Rattle.paper.specs.declared.numbers.FoldSet.{FoldSet}
use Rattle.paper.specs.Folds.{folds, even_borders}
use Rattle.paper.specs.Layouts.{cross, forward, cpcv, walk_forward, rolling}
use Rattle.paper.specs.Handed.{list_of}
use Rattle.paper.specs.Sets.{choose, entry, is_split}
use Rattle.paper.proofs.Listing.{choose_room}
use Rattle.paper.proofs.ListingMeaning.{entry-is_split}
use Rattle.layouts.specs.Tested.{forward_fold, cross_set, SetIn}

-- The set of split s can be marked ..
pub numbered_set :
    (n N k s : ℕ) (set : FoldSet) → 2 ≤ N → N ≤ n → N ≤ 64 → s < choose N k → set.count ≡ k → list_of set ≡ entry N k s →
    SetIn n N set
numbered_set n N k s set two enough ceiling h c e =
    record {
      some = omega arith;
      enough = enough;
      few = omega (arith, choose_room N k s h);
      split = ap₂ (is_split N) c e ∙ entry-is_split N k s h;
    }

-- .. and gives the marks of split s.
pub numbered-cpcv :
    (n N k s width : ℕ) (set : FoldSet) → list_of set ≡ entry N k s →
    cross_set n N set width ≡ cpcv (even_borders n N) N k s width
numbered-cpcv n N k s width set e = ap (λ fs. cross (folds (even_borders n N) fs) width) e

pub numbered_walk : (n N m s : ℕ) → forward_fold n N (m + s) ≡ walk_forward (even_borders n N) m s
numbered_walk n N m s = refl

pub numbered-rolling :
    (a size step s : ℕ) → forward (a + s * step) (a + s * step + size) ≡ rolling a size step s
numbered-rolling a size step s = refl
