-- Pascal's triangle row by row, a row from the one above it: as many sums as it has places.
-- `choose` by its definition takes as many steps as it counts sets, so this is how large binomials are computed;
-- the examples of refusal 8 are here for that reason.
use mathlib.Core.Path.{◌≡◌, refl, ap}
use mathlib.Core.Bool.{true, false}
use mathlib.Core.List.{List, [], ◌∷◌}
use Prim.Native.Nat.{ℕ, zero, suc, ◌+◌}
use native.Mathlib.Omega.{arith}
use lib.ListN.{length, get_or}
use Rattle.paper.specs.Sets.{choose, too_many}

-- The row below: each number added to its left neighbour. `a` is the neighbour of the first.
unfoldable pub next : ℕ → List ℕ → List ℕ
next a [] = a ∷ []
next a (x ∷ xs) = (a + x) ∷ next x xs

-- C(n,0) .. C(n,n).
unfoldable pub row : ℕ → List ℕ
row zero = 1 ∷ []
row (suc n) = next 0 (row n)

next_zero : (a : ℕ) (xs : List ℕ) → get_or (next a xs) 0 0 ≡ a + get_or xs 0 0
unfolding next
next_zero a [] = omega arith
next_zero a (x ∷ xs) = refl

next_suc : (a : ℕ) (xs : List ℕ) (k : ℕ) → get_or (next a xs) (suc k) 0 ≡ get_or xs k 0 + get_or xs (suc k) 0
unfolding next
next_suc a [] k = refl
next_suc a (x ∷ xs) zero = next_zero x xs
next_suc a (x ∷ xs) (suc k) = next_suc x xs k

next_length : (a : ℕ) (xs : List ℕ) → length (next a xs) ≡ suc (length xs)
unfolding next
next_length a [] = refl
next_length a (x ∷ xs) = ap suc (next_length x xs)

pub row_length : (n : ℕ) → length (row n) ≡ suc n
unfolding row
row_length zero = refl
row_length (suc n) = rw (next_length, row_length n)

-- At every k: past the end of the row both are 0.
pub row_at : (n k : ℕ) → get_or (row n) k 0 ≡ choose n k
unfolding row choose
row_at zero zero = refl
row_at zero (suc k) = refl
row_at (suc n) zero = omega (arith, next_zero 0 (row n), row_at n zero)
row_at (suc n) (suc k) = omega (arith, next_suc 0 (row n) k, row_at n k, row_at n (suc k))

-- The edge that 01 names. At (63,35) the lesser number is 28, and 35 in its place would be refused.
pub too_many_edge : (too_many 62 31 ≡ false) × (too_many 63 28 ≡ false) × (too_many 63 35 ≡ false) × (too_many 64 26 ≡ false) × (too_many 63 29 ≡ true) × (too_many 64 27 ≡ true)
unfolding row next
too_many_edge = (rw (← row_at), rw (← row_at), rw (← row_at), rw (← row_at), rw (← row_at), rw (← row_at))
