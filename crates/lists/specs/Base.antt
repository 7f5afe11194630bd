-- Lists made place by place, counts, "some", first hits and running joins, over the numbers below a bound.
-- 01 speaks of rows, folds and places only by these, and they know nothing of splits.
-- The laws stand in the files beside this one, one file an operation.
use Rattle.std.specs.Prelude.{Bool, true, false, cond, ◌||◌, List, [], ◌∷◌, ◌++◌, ℕ, zero, suc, ◌+◌, ◌-◌, eqb}

-- The list f 0, f 1, .. f (n - 1).
unfoldable pub tab : {A : Type 0} → (ℕ → A) → ℕ → List A
tab f zero = []
tab f (suc n) = tab f n ++ (f n ∷ [])

abbrev pub bit : Bool → ℕ
bit true = 1
bit false = 0

-- How many of the numbers below n pass.
unfoldable pub count : (ℕ → Bool) → ℕ → ℕ
count p zero = 0
count p (suc n) = count p n + bit (p n)

-- How often v stands in the list.
unfoldable pub tally : ℕ → List ℕ → ℕ
tally v [] = 0
tally v (x ∷ l) = bit (eqb x v) + tally v l

-- Does one of the numbers below n pass?
unfoldable pub any : (ℕ → Bool) → ℕ → Bool
any p zero = false
any p (suc n) = any p n || p n

-- Does one of the numbers from b up to e pass?
abbrev pub any_from : (ℕ → Bool) → ℕ → ℕ → Bool
any_from p b e = any (λ m. p (b + m)) (e - b)

-- The least number from b on that passes, of m numbers looked at; b + m where none does.
unfoldable pub first_from : (ℕ → Bool) → ℕ → ℕ → ℕ
first_from p b zero = b
first_from p b (suc m) = cond (p b) b (first_from p (suc b) m)

-- The least number below n that passes; n where none does.
abbrev pub first : (ℕ → Bool) → ℕ → ℕ
first p n = first_from p 0 n

-- f b, f (b + 1), .. f (b + m), joined from the left by op.
unfoldable pub join_from : {A : Type 0} → (A → A → A) → (ℕ → A) → ℕ → ℕ → A
join_from op f b zero = f b
join_from op f b (suc m) = op (join_from op f b m) (f (b + suc m))

-- f b, f (b + 1), .. f (e - 1), joined from the left by op. There is at least the one at b.
abbrev pub over : {A : Type 0} → (A → A → A) → (ℕ → A) → ℕ → ℕ → A
over op f b e = join_from op f b (e - b - 1)

-- f 0 + f 1 + .. + f (n - 1).
unfoldable pub sum : (ℕ → ℕ) → ℕ → ℕ
sum f zero = 0
sum f (suc n) = sum f n + f n
