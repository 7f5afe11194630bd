-- A split as it is handed out and handed in (01, "Combinations and paths"): its ascending fold list in the first of 64
-- places, with its length; unused places hold 0.
use Rattle.std.specs.Prelude.{List, [], ◌∷◌, ◌++◌, ℕ, ◌-◌, length, take, replicate}
use Rattle.paper.specs.declared.numbers.FoldNumber.{FoldNumber}
use Rattle.paper.specs.declared.numbers.FoldSet.{FoldSet}

abbrev pub numbered : List ℕ → List FoldNumber
numbered [] = []
numbered (f ∷ s) = record { 0 = f } ∷ numbered s

abbrev pub numbers : List FoldNumber → List ℕ
numbers [] = []
numbers (f ∷ s) = f.0 ∷ numbers s

-- The set, handed out.
abbrev pub handed : List ℕ → FoldSet
handed s = record { folds = numbered s ++ replicate (64 - length s) (record { 0 = 0 }); count = length s }

-- No folds: the set to which folds are added.
abbrev pub no_folds : FoldSet
no_folds = record { folds = replicate 64 (record { 0 = 0 }); count = 0 }

-- The fold list that is handed in. Places past its length are not looked at.
abbrev pub list_of : FoldSet → List ℕ
list_of s = take s.count (numbers s.folds)
