-- Laws of fold sets: what a set that was handed out lists, and one fold put at its end.
use mathlib.Core.Path.{◌≡◌, refl, sym, ap, ◌∙◌}
use mathlib.Core.List.{List, [], ◌∷◌, ◌++◌, append_assoc}
use Prim.Native.Nat.{ℕ, zero, suc, ◌+◌, ◌-◌, ◌<◌}
use native.Mathlib.Omega.{arith}
use lib.ListN.{length, get_or, take, replicate, set, length-append, length-take}
use native.Mathlib.Numerals.{add-one}
use lib.Seq.{take-append_seam, take-suc, set_at, get_or-take}
use Rattle.paper.specs.declared.numbers.FoldNumber.{FoldNumber}
use Rattle.paper.specs.declared.numbers.FoldSet.{FoldSet}
use Rattle.paper.specs.Handed.{numbered, numbers, handed, list_of}
use Rattle.sets.specs.Work.{Tidy}

numbers-append : (l m : List FoldNumber) → numbers (l ++ m) ≡ numbers l ++ numbers m
numbers-append [] m = refl
numbers-append (f ∷ l) m = ap (λ t. f.0 ∷ t) (numbers-append l m)

numbers-numbered : (s : List ℕ) → numbers (numbered s) ≡ s
numbers-numbered [] = refl
numbers-numbered (f ∷ s) = ap (λ t. f ∷ t) (numbers-numbered s)

numbers_at : (l : List FoldNumber) (i : ℕ) → get_or (numbers l) i 0 ≡ (get_or l i (record { 0 = 0 })).0
numbers_at [] i = refl
numbers_at (f ∷ l) zero = refl
numbers_at (f ∷ l) (suc i) = numbers_at l i

pub length-numbers : (l : List FoldNumber) → length (numbers l) ≡ length l
length-numbers [] = refl
length-numbers (f ∷ l) = ap suc (length-numbers l)

numbered-append : (s t : List ℕ) → numbered (s ++ t) ≡ numbered s ++ numbered t
numbered-append [] t = refl
numbered-append (f ∷ s) t = ap (λ l. record { 0 = f } ∷ l) (numbered-append s t)

length-numbered : (s : List ℕ) → length (numbered s) ≡ length s
length-numbered [] = refl
length-numbered (f ∷ s) = ap suc (length-numbered s)

pub list_of-handed : (s : List ℕ) → list_of (handed s) ≡ s
list_of-handed s =
    rw (numbers-append (numbered s) (replicate (64 - length s) (record { 0 = 0 })), numbers-numbered s)
    (take-append_seam s (numbers (replicate (64 - length s) (record { 0 = 0 }))))

pub handed_tidy : (s : List ℕ) {r : FoldSet} → r ≡ handed s → Tidy r
handed_tidy s e = e ∙ ap handed (sym (ap list_of e ∙ list_of-handed s))

-- The place at the end of the list gets the fold.
handed_more : (s : List ℕ) (f : ℕ) → length s < 64
    → ◌≡◌ {A = FoldSet} (record { folds = set (handed s).folds (length s) (record { 0 = f }); count = length s + 1 }) (handed (s ++ f ∷ []))
handed_more s f h =
    let e : 64 - length s ≡ suc (63 - length s) = omega arith in
    let d : 64 - (length s + 1) ≡ 63 - length s = omega arith in
    rw (
      e,
      set_at (numbered s) (record { 0 = 0 }) (replicate (63 - length s) (record { 0 = 0 })) (record { 0 = f }) (length s) (length-numbered s),
      numbered-append,
      append_assoc,
      length-append s (f ∷ []),
      d,
    )

pub with_fold : (b : FoldSet) (s : List ℕ) (f : ℕ) → b ≡ handed s → b.count < 64
    → ◌≡◌ {A = FoldSet} (record { folds = set b.folds b.count (record { 0 = f }); count = b.count + 1 }) (handed (s ++ f ∷ []))
with_fold b s f e h =
    let n : b.count ≡ length s = ap (λ x. x.count) e in
    let l : b.folds ≡ (handed s).folds = ap (λ x. x.folds) e in
    rw (l, n) (handed_more s f (omega arith))

-- A place of the list, as the code reads it.
pub places_at : (l : List FoldNumber) (many i : ℕ) → i < length (take many (numbers l))
    → get_or (take many (numbers l)) i 0 ≡ (get_or l i (record { 0 = 0 })).0
places_at l many i h = get_or-take many (numbers l) i 0 (omega (arith, length-take many (numbers l))) ∙ numbers_at l i

pub list_of_at : (b : FoldSet) (i : ℕ) → i < length (list_of b) → get_or (list_of b) i 0 ≡ (get_or b.folds i (record { 0 = 0 })).0
list_of_at b i h = places_at b.folds b.count i h

-- The list is as long as there are places for.

-- ---- a set made fold by fold

pub handed-count : (s : List ℕ) {r : FoldSet} → r ≡ handed s → r.count ≡ length s
handed-count s e = ap (λ x. x.count) e

-- One fold more of the list that is copied from the first `many` places.
pub handed_taken : (b out r : FoldSet) (many i : ℕ) → i < many → i < length (list_of b) → out ≡ handed (take i (list_of b))
    → r ≡ handed (list_of out ++ (get_or (take many b.folds) i (record { 0 = 0 })).0 ∷ []) → r ≡ handed (take (i + 1) (list_of b))
handed_taken b out r many i lt h e er =
    let l : list_of out ≡ take i (list_of b) = ap list_of e ∙ list_of-handed (take i (list_of b)) in
    er ∙ rw (l, get_or-take many b.folds i (record { 0 = 0 }) lt, ← list_of_at b i h, add-one i, take-suc (list_of b) i 0 h)
