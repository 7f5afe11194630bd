-- The table of binomials: its rule, tested once over the whole table, and carried to C(n,k).
-- The rows are those of paper's Rows, one after another. Where the code's table meets `triangle`, antt makes the 2,145 sums
-- and compares them with the 2,145 numbers of the source.
use mathlib.Core.Path.{◌≡◌, refl, ap, ◌∙◌}
use mathlib.Core.Bool.{Bool, true, not, ◌&&◌}
use mathlib.Core.List.{List, [], ◌∷◌, ◌++◌}
use Prim.Native.Nat.{ℕ, zero, suc, ◌+◌, ◌*◌, ◌/◌, ◌^◌, ◌≤◌, ◌<◌}
use native.Mathlib.Nat.{zero-add, two-pow-succ, pow-le-pow_right}
use native.Mathlib.Omega.{arith}
use borrow.Author.Tests.{eqb-true, ltb-true, not-false}
use lib.Dec.{eqb, ltb}
use lib.ListN.{length, get_or, get_or-append}
use lib.Seq.{get_or-append-add}
use Rattle.lists.specs.Base.{any}
use Rattle.lists.specs.AnyLaws.{any_each, both}
use Rattle.paper.specs.Sets.{choose}
use Rattle.paper.proofs.Rows.{next, row, row_at, row_length}

-- m rows, one after another, from row r on.
unfoldable pub rows_from : ℕ → List ℕ → List ℕ
rows_from zero r = []
rows_from (suc m) r = r ++ rows_from m (next 0 r)

unfoldable pub triangle : List ℕ
triangle = rows_from 65 (1 ∷ [])

-- Where row j + n begins, counted from row j.
unfoldable place : ℕ → ℕ → ℕ
place j zero = 0
place j (suc n) = suc j + place (suc j) n

rows_from_at : (m j n k : ℕ) → n < m → k ≤ j + n → get_or (rows_from m (row j)) (place j n + k) 0 ≡ choose (j + n) k
unfolding rows_from place row
rows_from_at zero j n k h le = absurd (omega arith)
rows_from_at (suc m) j zero k h le =
    let e : j + 0 ≡ j = omega arith in
    rw (zero-add k, e)
    (get_or-append (row j) (rows_from m (next 0 (row j))) 0 k (rw (row_length j) (omega arith)) ∙ row_at j k)
rows_from_at (suc m) j (suc n) k h le =
    let e : suc j + place (suc j) n + k ≡ length (row j) + (place (suc j) n + k) = rw (row_length j) (omega arith) in
    let d : j + suc n ≡ suc j + n = omega arith in
    rw (e, d)
    (get_or-append-add (row j) (rows_from m (next 0 (row j))) (place (suc j) n + k) 0
    ∙ rows_from_at m (suc j) n k (omega arith) (omega arith))

-- Row n begins at n(n+1)/2 and lies within the table: tested at the 65 rows.
abbrev right_row : ℕ → Bool
right_row n = eqb (place 0 n) (n * (n + 1) / 2) && ltb (n * (n + 1) / 2 + n) 2145

row_right : (n : ℕ) → n ≤ 64 → right_row n ≡ true
unfolding any place
row_right n h = not-false (right_row n) (any_each (λ i. not (right_row i)) 65 n refl (omega arith))

pub triangle_at : (n k : ℕ) → n ≤ 64 → k ≤ n → get_or triangle (n * (n + 1) / 2 + k) 0 ≡ choose n k
unfolding triangle row
triangle_at n k h le =
    rw (← eqb-true (place 0 n) (n * (n + 1) / 2) (both {a = eqb (place 0 n) (n * (n + 1) / 2)} (row_right n h)).0)
    (rows_from_at 65 0 n k (omega arith) (omega arith) ∙ ap (λ m. choose m k) (zero-add n))

pub triangle_room : (n : ℕ) → n ≤ 64 → n * (n + 1) / 2 + n < 2145
triangle_room n h = ltb-true (n * (n + 1) / 2 + n) 2145 (both {a = eqb (place 0 n) (n * (n + 1) / 2)} (row_right n h)).1

-- C(n,k) is below 2^n, for n above 0.
choose_power : (n k : ℕ) → choose (suc n) k < 2 ^ suc n
unfolding choose
choose_power zero zero = omega arith
choose_power zero (suc zero) = omega arith
choose_power zero (suc (suc k)) = omega arith
choose_power (suc n) zero = omega (arith, two-pow-succ (suc n), choose_power n zero)
choose_power (suc n) (suc k) = omega (arith, two-pow-succ (suc n), choose_power n k, choose_power n (suc k))

-- No binomial of the table wraps.
pub choose-fits : (n k : ℕ) → n ≤ 64 → choose n k < 2 ^ 64
unfolding choose
choose-fits zero zero h = omega arith
choose-fits zero (suc k) h = omega arith
choose-fits (suc n) k h = omega (arith, choose_power n k, pow-le-pow_right {n = 2} (omega arith) {j = 64} h)
