-- What blocks mean (01, "Purge, embargo, marks"): they are not empty, hold test rows only, come one behind the other with a
-- row between them that is not tested, and hold every test row. That they are maximal is the last two together.
use mathlib.Core.Path.{◌≡◌, refl, ◌∙◌}
use mathlib.Core.Bool.{Bool, true, false, not}
use Prim.Native.Nat.{ℕ, zero, suc, ◌-◌, ◌≤◌, ◌<◌}
use native.Mathlib.Omega.{arith}
use native.Mathlib.Decide.{dec_lt}
use borrow.Author.Tests.{not-true, not-false}
use Rattle.lists.specs.AnyLaws.{never, both}
use Rattle.lists.specs.FirstLaws.{first_from_ge, first_from-le, first_from_is, first_from_before, first_from_at, first_from_none}
use Rattle.paper.specs.Folds.{Rows}
use Rattle.paper.specs.Blocks.{begins, past}

module _ (n : ℕ) (t : Rows) where
  -- A block begins at a test row.
  pub begins_test : (b : ℕ) → begins t b ≡ true → t b ≡ true
  unfolding begins
  begins_test zero h = h
  begins_test (suc b) h = (both {a = t (suc b)} h).0

  -- The row before it is not tested. These two settle it.
  pub begins-after : (b : ℕ) → begins t (suc b) ≡ true → t b ≡ false
  unfolding begins
  begins-after b h = not-true (t b) (both {a = t (suc b)} h).1

  pub begins_is : (b : ℕ) → t b ≡ true → ((c : ℕ) → suc c ≡ b → t c ≡ false) → begins t b ≡ true
  unfolding begins
  begins_is zero h f = h
  begins_is (suc b) h f = rw (h, f b refl)

  -- The row past a block lies within the rows, or is their end.
  pub past_le : (b : ℕ) → b ≤ n → past n t b ≤ n
  past_le b h = omega (arith, first_from-le (λ i. not (t i)) b (n - b))

  -- All its rows are tested.
  pub past_test : (b i : ℕ) → b ≤ i → i < past n t b → t i ≡ true
  past_test b i g h = not-false (t i) (first_from_before (λ i. not (t i)) b (n - b) i g h)

  -- The row past it is not.
  pub past_stops : (b : ℕ) → b ≤ n → past n t b < n → t (past n t b) ≡ false
  past_stops b g h = not-true (t (past n t b)) (first_from_is (λ i. not (t i)) b (n - b) (omega arith))

  -- What settles it: tested up to e, and e is not tested or the end.
  pub past_is : (b e : ℕ) → b ≤ e → e ≤ n → ((i : ℕ) → b ≤ i → i < e → t i ≡ true) → (e < n → t e ≡ false) → past n t b ≡ e
  past_is b e g h all stop = go (dec_lt e n)
    where
      go : Dec (e < n) → past n t b ≡ e
      go (yes l) = first_from_at (λ i. not (t i)) b (n - b) e g (omega arith) (rw (stop l)) (λ j x y. rw (all j x y))
      go (no k) =
          first_from_none (λ i. not (t i)) b (n - b) (λ j x y. rw (all j x (omega arith))) ∙ omega arith

  -- A block is not empty.
  pub block_some : (b : ℕ) → b < n → begins t b ≡ true → b < past n t b
  block_some b h k = go (dec_lt b (past n t b))
    where
      go : Dec (b < past n t b) → b < past n t b
      go (yes l) = l
      go (no g) =
          let z : past n t b ≡ b = omega (arith, first_from_ge (λ i. not (t i)) b (n - b)) in
          never (begins_test b k) (rw z at (past_stops b (omega arith) (omega arith)))

  -- Blocks ascend, are disjoint, and are not adjacent: the row past the earlier one lies before the later one begins.
  pub block_apart : (b c : ℕ) → b < c → c < n → begins t c ≡ true → past n t b < c
  block_apart b zero h k e = elim h [ ]
  block_apart b (suc c) h k e = go (dec_lt c (past n t b))
    where
      go : Dec (c < past n t b) → past n t b < suc c
      go (yes l) = never (past_test b c (omega arith) l) (begins-after c e)
      go (no g) = omega arith

  -- From a test row back to the row that begins its run.
  run_first : (m : ℕ) → t m ≡ true → (b : ℕ) × (b ≤ m) × (begins t b ≡ true) × ((j : ℕ) → b ≤ j → j ≤ m → t j ≡ true)
  unfolding begins
  run_first zero q = (0, omega arith, q, λ j g l. let z : j ≡ 0 = omega arith in rw z q)
  run_first (suc m) q = go (t m) refl (run_first m)
    where
      go :
          (v : Bool) → t m ≡ v →
          (t m ≡ true → (b : ℕ) × (b ≤ m) × (begins t b ≡ true) × ((j : ℕ) → b ≤ j → j ≤ m → t j ≡ true)) →
          (b : ℕ) × (b ≤ suc m) × (begins t b ≡ true) × ((j : ℕ) → b ≤ j → j ≤ suc m → t j ≡ true)
      go true e ih = let r = ih e in (r.0, omega (arith, r.1), r.2, λ j g l. at j g (dec_lt m j) l)
        where
          at : (j : ℕ) → (ih e).0 ≤ j → Dec (m < j) → j ≤ suc m → t j ≡ true
          at j g (yes k) l = let z : j ≡ suc m = omega arith in rw z q
          at j g (no k) l = (ih e).3 j g (omega arith)
      go false e ih = (suc m, omega arith, rw (q, e), λ j g l. let z : j ≡ suc m = omega arith in rw z q)

  -- Every test row lies in a block.
  pub block_of : (i : ℕ) → i < n → t i ≡ true → (b : ℕ) × (b ≤ i) × (begins t b ≡ true) × (i < past n t b)
  block_of i h e = let r = run_first i e in (r.0, r.1, r.2, up r.0 r.1 r.3 (dec_lt i (past n t r.0)))
    where
      up : (b : ℕ) → b ≤ i → ((j : ℕ) → b ≤ j → j ≤ i → t j ≡ true) → Dec (i < past n t b) → i < past n t b
      up b g all (yes l) = l
      up b g all (no k) =
          never (all (past n t b) (first_from_ge (λ i. not (t i)) b (n - b)) (omega arith))
          (past_stops b (omega arith) (omega arith))
