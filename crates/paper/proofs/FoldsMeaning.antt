-- What folds mean (01, "Rows, times, settings"): they partition the rows, in order, and even folds have 01's sizes.
-- All but the last section is said of any borders that begin at 0, rise and end at n.
use mathlib.Core.Path.{◌≡◌, refl, ◌∙◌}
use mathlib.Core.Bool.{true, false, and-false}
use mathlib.Core.List.{List}
use Prim.Native.Nat.{ℕ, zero, suc, ◌+◌, ◌-◌, ◌*◌, ◌/◌, ◌%◌, ◌≤◌, ◌<◌, min}
use native.Mathlib.Nat.{suc-mul, div-add-mod, div-add-mod', mod-lt, mul_comm, mul-le-mul_right, le-div_iff_mul-le}
use native.Mathlib.Numerals.{add-one}
use native.Mathlib.Omega.{arith}
use native.Mathlib.Decide.{dec_lt, le_ind}
use lib.Dec.{leb, ltb}
use lib.ListN.{length}
use borrow.Author.Tests.{ltb-true, ltb-false, leb-true, lt-ltb, le-ltb, le-leb, lt-leb}
use Rattle.lists.specs.Base.{bit, count}
use Rattle.lists.specs.AnyLaws.{both, never}
use Rattle.lists.specs.FirstLaws.{first_is, first_before}
use Rattle.lists.specs.TabLaws.{length-tab, get_d_tab}
use Rattle.paper.specs.Folds.{within, border, fold, fold_of, even_size, even_border, even_borders}

-- ---- ranges of rows

pub within_in : (b e i : ℕ) → b ≤ i → i < e → within b e i ≡ true
within_in b e i g h = rw (le-leb b i g, lt-ltb i e h)

pub within_is : (b e i : ℕ) → within b e i ≡ true → (b ≤ i) × (i < e)
within_is b e i h = let t = both {a = leb b i} h in (leb-true b i t.0, ltb-true i e t.1)

pub within_before : (b e i : ℕ) → i < b → within b e i ≡ false
within_before b e i h = rw (lt-leb b i h)

pub within-behind : (b e i : ℕ) → e ≤ i → within b e i ≡ false
within-behind b e i h = rw (le-ltb i e h) (and-false (leb b i))

-- A range holds as many rows as its ends are apart.
pub count-within : (b e n : ℕ) → count (within b e) n ≡ min n e - b
unfolding count
count-within b e zero = omega arith
count-within b e (suc n) = rw (count-within b e n) (go (dec_lt n b) (dec_lt n e))
  where
    go : Dec (n < b) → Dec (n < e) → min n e - b + bit (within b e n) ≡ min (suc n) e - b
    go (yes l) d = rw (within_before b e n l) (omega arith)
    go (no g) (yes l) = rw (within_in b e n (omega arith) l) (omega arith)
    go (no g) (no k) = rw (within-behind b e n (omega arith)) (omega arith)

-- Of w rows from f on, as many as there are.
pub count-within_from : (f w n : ℕ) → count (within f (f + w)) n ≡ min w (n - f)
count-within_from f w n = count-within f (f + w) n ∙ omega arith

-- ---- any borders

-- N + 1 borders of n rows: from 0, strictly rising, to n.
pub record Borders (bs : List ℕ) (N n : ℕ) : Type 0 where
  pub long : length bs ≡ N + 1
  pub begin : border bs 0 ≡ 0
  pub rise : (f : ℕ) → f < N → border bs f < border bs (f + 1)
  pub end : border bs N ≡ n

module _ {bs : List ℕ} {N n : ℕ} (w : Borders bs N n) where
  pub border-le : (f g : ℕ) → f ≤ g → g ≤ N → border bs f ≤ border bs g
  border-le f g h =
      le_ind (λ m. m ≤ N → border bs f ≤ border bs m) (λ l. omega arith)
      (λ m k ih l.
      let z : border bs m < border bs (suc m) = rw add-one at (w.rise m (omega arith)) in
      omega (arith, ih (omega arith)))
      g h

  -- Folds are in order: a row of an earlier fold comes before a row of a later one.
  pub fold_order : (f g i j : ℕ) → f < g → g < N → fold bs f i ≡ true → fold bs g j ≡ true → i < j
  fold_order f g i j h k a b =
      let x = within_is (border bs f) (border bs (f + 1)) i a in
      let y = within_is (border bs g) (border bs (g + 1)) j b in
      omega (arith, border-le (f + 1) g (omega arith) (omega arith))

  -- So no row is in two.
  pub fold-only : (f g i : ℕ) → f < N → g < N → fold bs f i ≡ true → fold bs g i ≡ true → f ≡ g
  fold-only f g i h k a b = go (dec_lt f g) (dec_lt g f)
    where
      go : Dec (f < g) → Dec (g < f) → f ≡ g
      go (yes l) d = absurd (omega (arith, fold_order f g i i l k a b))
      go (no x) (yes l) = absurd (omega (arith, fold_order g f i i l h b a))
      go (no x) (no y) = omega arith

  -- Every row is in one: the one that `fold_of` gives.
  pub fold_of_below : (r : ℕ) → r < n → fold_of bs N r < N
  fold_of_below r h = go (dec_lt (fold_of bs N r) N)
    where
      some : 0 < N
      some = le_zero (dec_lt 0 N)
        where
          le_zero : Dec (0 < N) → 0 < N
          le_zero (yes l) = l
          le_zero (no k) = let z : N ≡ 0 = omega arith in absurd (omega (arith, w.begin, rw z at w.end))

      go : Dec (fold_of bs N r < N) → fold_of bs N r < N
      go (yes l) = l
      go (no k) =
          let z : N - 1 + 1 ≡ N = omega (arith, some) in
          never
          (lt-ltb r (border bs (N - 1 + 1)) (rw (z, w.end) h))
          (first_before (λ f. ltb r (border bs (f + 1))) N (N - 1) (omega (arith, some)))

  pub fold_of-fold : (r : ℕ) → r < n → fold bs (fold_of bs N r) r ≡ true
  fold_of-fold r h =
      within_in _ _ r (lower (fold_of bs N r) refl)
      (ltb-true r _ (first_is (λ f. ltb r (border bs (f + 1))) N (fold_of_below r h)))
    where
      lower : (f : ℕ) → fold_of bs N r ≡ f → border bs (fold_of bs N r) ≤ r
      lower zero e = rw (e, w.begin) (omega arith)
      lower (suc f) e =
          rw e
          (rw add-one at (ltb-false r (border bs (f + 1)) (first_before (λ f. ltb r (border bs (f + 1))) N f (omega arith))))

  -- A fold has as many rows as its borders are apart.
  pub fold_size : (f : ℕ) → f < N → count (fold bs f) n ≡ border bs (f + 1) - border bs f
  fold_size f h =
      rw (count-within (border bs f) (border bs (f + 1)) n)
      (let z : border bs (f + 1) ≤ n = omega (arith, border-le (f + 1) N (omega arith) (omega arith), w.end) in omega arith)

-- ---- even folds

bit_min : (f r : ℕ) → min f r + bit (ltb f r) ≡ min (suc f) r
bit_min f r = go (dec_lt f r)
  where
    go : Dec (f < r) → min f r + bit (ltb f r) ≡ min (suc f) r
    go (yes l) = rw (lt-ltb f r l) (omega arith)
    go (no g) = rw (le-ltb f r (omega arith)) (omega arith)

-- The even border without a walk over the folds before it.
pub even_border_closed : (n N f : ℕ) → even_border n N f ≡ f * (n / N) + min f (n % N)
unfolding even_border
even_border_closed n N zero = omega arith
even_border_closed n N (suc f) =
    rw (even_border_closed n N f, suc-mul) (omega (arith, bit_min f (n % N)))

-- No border lies past the rows, and none of its two parts does.
pub even_border-le : (n N f : ℕ) → f ≤ N → f * (n / N) + min f (n % N) ≤ n
even_border-le n N f h = omega (arith, mul-le-mul_right (n / N) h, div-add-mod n N)

pub border_even : (n N f : ℕ) → f ≤ N → border (even_borders n N) f ≡ even_border n N f
border_even n N f h = get_d_tab (even_border n N) 0 (N + 1) f (omega arith)

-- Each is as large as 01 says.
pub even_border_size : (n N f : ℕ) → even_border n N (f + 1) ≡ even_border n N f + even_size n N f
unfolding even_border
even_border_size n N f = rw add-one

pub even_border_all : (n N : ℕ) → 0 < N → even_border n N N ≡ n
even_border_all n N h =
    rw (even_border_closed n N N)
    (omega (arith, div-add-mod' n N, mul_comm N (n / N), mod-lt n h))

pub even_borders_lem : (n N : ℕ) → 0 < N → N ≤ n → Borders (even_borders n N) N n
even_borders_lem n N h k =
    record {
      long = length-tab (even_border n N) (N + 1);
      begin = border_even n N 0 (omega arith) ∙ zero_is;
      rise = λ f l.
          rw (border_even n N f (omega arith), border_even n N (f + 1) (omega arith), even_border_size n N f)
          (omega (arith, some));
      end = border_even n N N (omega arith) ∙ even_border_all n N h;
    }
  where
    zero_is : even_border n N 0 ≡ 0
    zero_is = rw (even_border_closed n N 0) (omega arith)

    some : 1 ≤ n / N
    some = (le-div_iff_mul-le h).1 (omega arith)

-- So even fold f has n/N rows, and one more if f < n mod N.
pub even_fold_size : (n N f : ℕ) → 0 < N → N ≤ n → f < N → count (fold (even_borders n N) f) n ≡ even_size n N f
even_fold_size n N f h k l =
    rw (fold_size (even_borders_lem n N h k) f l, border_even n N f (omega arith), border_even n N (f + 1) (omega arith), even_border_size n N f)
    (omega arith)
