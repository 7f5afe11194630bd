-- What a check that passes shows of k, and a fold set as a split.
use mathlib.Core.Path.{◌≡◌}
use mathlib.Core.Bool.{true, false, ◌||◌}
use mathlib.Core.List.{[]}
use Prim.Native.Nat.{ℕ, ◌<◌}
use lib.Dec.{eqb, leb}
use Rattle.paper.specs.Sets.{is_split}
use Prim.{tt}
use mathlib.Core.List.{◌∷◌}
use Rattle.std.specs.Prelude.{Option, Some, None, MatchOption}
use Rattle.std.specs.Option.{ok_or}
use Rattle.paper.specs.declared.numbers.FoldSet.{FoldSet}
use Rattle.paper.specs.declared.refusal.Refusal.TheVariants.{NoSuchNumber}
use Rattle.paper.specs.Handed.{list_of}
use Rattle.sets.specs.declared.choice.Split.{Split}
use Rattle.checks.specs.Said.{said_checked}
use Rattle.paper.specs.Checks.{checked, no_split}
use Rattle.paper.proofs.RefusalsMeaning.{bad_test_folds_passes}

pub test_folds : (n k : ℕ) → (eqb k 0 || leb n k) ≡ false → (0 < k) × (k < n)
test_folds n k h = (bad_test_folds_passes n k).shows h

-- A fold set as the split that it is, or 13.
pub split_or :
    (n k : ℕ) (set : FoldSet) (o : Option Split) →
    MatchOption o (is_split n k (list_of set) ≡ false) (λ s. (s.choice.n ≡ n) × (s.choice.k ≡ k) × (s.set ≡ set)) →
    said_checked (ok_or o NoSuchNumber) ≡ checked (no_split n k (list_of set) ∷ []) tt
unfolding checked
split_or n k set None h = rw h
split_or n k set (Some s) h = let t : is_split n k (list_of set) ≡ true = rw (h.0, h.1, h.2) at s.is in rw t
