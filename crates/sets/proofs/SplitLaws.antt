-- The two tests of a split, asked of the folds as they stand in the array.
use mathlib.Core.Path.{◌≡◌, refl, sym, ap}
use mathlib.Core.Bool.{Bool, true, false, ◌&&◌}
use mathlib.Core.List.{List, [], ◌∷◌}
use Prim.Native.Nat.{ℕ, zero, suc, ◌+◌, ◌<◌}
use native.Mathlib.Omega.{arith}
use native.Mathlib.Nat.{suc-add}
use Rattle.std.proofs.Math.Bool.{and-false}
use lib.Dec.{ltb}
use lib.ListN.{length, get_or, take}
use Rattle.std.specs.List.{list_all, AllAdjacentBelow, IsAllAdjacentAnswer}
use Rattle.paper.specs.Sets.{ascends, all_below}
use Rattle.paper.specs.declared.numbers.FoldNumber.{FoldNumber}
use Rattle.paper.specs.Handed.{numbers}

pub below_each : (n : ℕ) (l : List FoldNumber) → list_all (λ f. ltb f.0 n) l ≡ all_below n (numbers l)
unfolding all_below
below_each n [] = refl
below_each n (f ∷ l) = ap (λ t. ltb f.0 n && t) (below_each n l)

-- Fold b stands behind fold a, and exceeds it or not.
abbrev Next : FoldNumber → FoldNumber → Bool → Type 0
Next a b r = r ≡ ltb a.0 b.0

ascends_all : (l : List FoldNumber) → AllAdjacentBelow (λ a b. Next a b true) l (length l) → ascends (numbers l) ≡ true
unfolding ascends
ascends_all [] h = refl
ascends_all (a ∷ []) h = refl
ascends_all (a ∷ (b ∷ l)) h =
    let here : ltb a.0 b.0 ≡ true = sym (h 0 a (omega arith)) in
    rw (here, ascends_all (b ∷ l) (λ k d lt. simp suc-add at (h (suc k) d (omega arith)))) refl

ascends_none : (l : List FoldNumber) (k : ℕ) → k + 1 < length l
    → ((d : FoldNumber) → Next (get_or l k d) (get_or l (k + 1) d) false) → ascends (numbers l) ≡ false
unfolding ascends
ascends_none [] k lt h = absurd (omega arith)
ascends_none (a ∷ []) k lt h = absurd (omega arith)
ascends_none (a ∷ (b ∷ l)) zero lt h = let here : ltb a.0 b.0 ≡ false = sym (h a) in rw here
ascends_none (a ∷ (b ∷ l)) (suc k) lt h =
    rw (ascends_none (b ∷ l) k (omega arith) (λ d. simp suc-add at (h d))) (and-false (ltb a.0 b.0))

pub ascends_answer : (l : List FoldNumber) (r : Bool) → IsAllAdjacentAnswer Next l r → r ≡ ascends (numbers l)
ascends_answer l true h = sym (ascends_all l h)
ascends_answer l false h = sym (ascends_none l h.0 h.1 h.2)

pub numbers-take : (many : ℕ) (l : List FoldNumber) → numbers (take many l) ≡ take many (numbers l)
numbers-take zero l = refl
numbers-take (suc many) [] = refl
numbers-take (suc many) (f ∷ l) = ap (λ t. f.0 ∷ t) (numbers-take many l)
