-- What a split that is handed out means (01, "Combinations and paths"): 64 places, the folds in the first of them, 0 in all
-- others; and handed in again it is the same list.
use mathlib.Core.Path.{◌≡◌, refl, ap, ◌∙◌}
use mathlib.Core.List.{List, [], ◌∷◌, ◌++◌}
use Prim.Native.Nat.{ℕ, suc, ◌+◌, ◌-◌, ◌≤◌, ◌<◌}
use native.Mathlib.Omega.{arith}
use lib.ListN.{length, get_or, replicate, length-append, length-replicate, get_or-replicate}
use lib.Seq.{take_at, get_or-append-add}
use Rattle.paper.specs.declared.numbers.FoldNumber.{FoldNumber}
use Rattle.paper.specs.Handed.{numbered, numbers, handed, no_folds, list_of}

numbered-length : (s : List ℕ) → length (numbered s) ≡ length s
numbered-length [] = refl
numbered-length (f ∷ s) = ap suc (numbered-length s)

numbers-append : (s : List ℕ) (r : List FoldNumber) → numbers (numbered s ++ r) ≡ s ++ numbers r
numbers-append [] r = refl
numbers-append (f ∷ s) r = ap (λ l. f ∷ l) (numbers-append s r)

-- The first places hold the folds, in order.
pub handed_back : (s : List ℕ) → list_of (handed s) ≡ s
handed_back s =
    rw (numbers-append s (replicate (64 - length s) (record { 0 = 0 })))
    (take_at s (numbers (replicate (64 - length s) (record { 0 = 0 }))) (length s) refl)

pub handed_places : (s : List ℕ) → length s ≤ 64 → length (handed s).folds ≡ 64
handed_places s h = rw (length-append, numbered-length s, length-replicate) (omega arith)

-- Places past the length hold 0.
pub handed_unused : (s : List ℕ) (d : FoldNumber) (i : ℕ) → length s ≤ i → i < 64 → get_or (handed s).folds i d ≡ record { 0 = 0 }
handed_unused s d i h k =
    let e : length (numbered s) + (i - length s) ≡ i = omega (arith, numbered-length s) in
    rw (← e) (get_or-append-add (numbered s) (replicate (64 - length s) (record { 0 = 0 })) (i - length s) d
    ∙ get_or-replicate (64 - length s) (i - length s) (record { 0 = 0 }) d (omega arith))

pub no_folds-handed : no_folds ≡ handed []
no_folds-handed = refl
