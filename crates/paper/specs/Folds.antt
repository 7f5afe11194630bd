-- Folds (01, "Rows, times, settings": Folds). Folds come as borders: fold f has the rows from border f up to border f + 1.
-- Marks, blocks and joining speak of borders; even folds are one way to make them.
use Rattle.std.specs.Prelude.{Bool, false, ◌&&◌, ◌||◌, List, [], ◌∷◌, ℕ, zero, suc, ◌+◌, ◌/◌, ◌%◌, leb, ltb, get_or}
use Rattle.lists.specs.Base.{tab, first, bit}

-- A set of rows: is the row in it?
abbrev pub Rows : Type 0
Rows = ℕ → Bool

-- The rows from b up to e, e not counted.
abbrev pub within : ℕ → ℕ → Rows
within b e i = leb b i && ltb i e

-- Border f of a list of borders.
abbrev pub border : List ℕ → ℕ → ℕ
border bs f = get_or bs f 0

abbrev pub fold : List ℕ → ℕ → Rows
fold bs f = within (border bs f) (border bs (f + 1))

-- The rows of a list of folds.
unfoldable pub folds : List ℕ → List ℕ → Rows
folds bs [] i = false
folds bs (f ∷ fs) i = fold bs f i || folds bs fs i

-- The fold, of N, that a row is in: the first whose end is past the row. (N, for a row past the last.)
abbrev pub fold_of : List ℕ → ℕ → ℕ → ℕ
fold_of bs N r = first (λ f. ltb r (border bs (f + 1))) N

-- Even folds. Fold f of N has n/N rows, and one more if f < n mod N.
abbrev pub even_size : ℕ → ℕ → ℕ → ℕ
even_size n N f = n / N + bit (ltb f (n % N))

-- They are consecutive.
unfoldable pub even_border : ℕ → ℕ → ℕ → ℕ
even_border n N zero = 0
even_border n N (suc f) = even_border n N f + even_size n N f

abbrev pub even_borders : ℕ → ℕ → List ℕ
even_borders n N = tab (even_border n N) (N + 1)
