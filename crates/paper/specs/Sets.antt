-- The splits: 01, "Combinations and paths", first paragraph, and refusal 8.
-- A split is the ascending list of the folds that it tests. A fold is a plain number here.
use Rattle.std.specs.Prelude.{Bool, true, ◌&&◌, List, [], ◌∷◌, ◌++◌, ℕ, zero, suc, ◌+◌, ◌-◌, ◌*◌, ◌^◌, min, ltb, eqb, length, get_or}

-- C(n,k), by Pascal's rule.
unfoldable pub choose : ℕ → ℕ → ℕ
choose n zero = 1
choose zero (suc k) = 0
choose (suc n) (suc k) = choose n k + choose n (suc k)

-- Each of the sets, with the fold f put in front.
unfoldable pub each : ℕ → List (List ℕ) → List (List ℕ)
each f [] = []
each f (s ∷ ss) = (f ∷ s) ∷ each f ss

-- The k-element sets of the n folds from `first` on: those that hold it come first, then those that don't,
-- each part in the same order over the folds that remain.
unfoldable pub listing : ℕ → ℕ → ℕ → List (List ℕ)
listing first n zero = [] ∷ []
listing first zero (suc k) = []
listing first (suc n) (suc k) = each first (listing (suc first) n k) ++ listing (suc first) n (suc k)

-- Split i, of the splits that test k of N folds.
abbrev pub entry : ℕ → ℕ → ℕ → List ℕ
entry N k i = get_or (listing 0 N k) i []

-- Does every number of the list exceed the one before it?
unfoldable pub ascends : List ℕ → Bool
ascends [] = true
ascends (a ∷ []) = true
ascends (a ∷ (b ∷ s)) = ltb a b && ascends (b ∷ s)

-- Is every number of the list below N?
unfoldable pub all_below : ℕ → List ℕ → Bool
all_below N [] = true
all_below N (a ∷ s) = ltb a N && all_below N s

-- Is the list a k-element set of the folds 0..N-1, written ascending? The listing plays no part here.
abbrev pub is_split : ℕ → ℕ → List ℕ → Bool
is_split N k s = ascends s && all_below N s && eqb (length s) k

-- Refusal 8, j being the lesser of k and N - k: C(N,j) · j exceeds 2^64 - 1.
abbrev pub too_many : ℕ → ℕ → Bool
too_many N k = let j = min k (N - k) in ltb (2 ^ 64 - 1) (choose N j * j)
