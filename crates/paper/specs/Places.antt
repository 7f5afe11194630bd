-- The number of a split, and the split after it: 01, "Combinations and paths". Both are said over the listing.
use Rattle.std.specs.Prelude.{Bool, true, false, cond, ◌&&◌, List, [], ◌∷◌, ℕ, ◌+◌, ltb, eqb, Option, Some, None}
use Rattle.lists.specs.Base.{first}
use Rattle.paper.specs.declared.numbers.FoldSet.{FoldSet}
use Rattle.paper.specs.Sets.{choose, entry}
use Rattle.paper.specs.Handed.{handed}

-- Are the two lists the same?
unfoldable pub same : List ℕ → List ℕ → Bool
same [] [] = true
same [] (b ∷ t) = false
same (a ∷ s) [] = false
same (a ∷ s) (b ∷ t) = eqb a b && same s t

-- The number of a split: its place in the listing. How many splits there are, of a list that is none.
abbrev pub place_of : ℕ → ℕ → List ℕ → ℕ
place_of N k s = first (λ i. same (entry N k i) s) (choose N k)

-- Is there a split after this one?
abbrev pub has_next : ℕ → ℕ → List ℕ → Bool
has_next N k s = ltb (place_of N k s + 1) (choose N k)

-- The split after this one, handed out; none after the last.
abbrev pub next_folds : ℕ → ℕ → List ℕ → Option FoldSet
next_folds N k s = cond (has_next N k s) (Some (handed (entry N k (place_of N k s + 1)))) None
