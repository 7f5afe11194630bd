-- Laws of `count` and `tally`: bounds, what changes nothing, ranges, and that a tally of a made list is a count.
use Rattle.std.specs.Prelude.{◌≡◌, refl, Bool, true, false, not, ◌||◌, List, [], ◌∷◌, ◌++◌, ℕ, zero, suc, ◌+◌, ◌-◌, ◌≤◌, ◌<◌, eqb}
use Rattle.std.proofs.Common.{sym, ap, ◌∙◌, add-one, arith}
use Rattle.std.specs.Int.{from_bool}
use Rattle.lists.specs.Base.{tab, count, tally, bit}

-- A test as a number, as the library gives it.
pub from_bool-bit : (b : Bool) → from_bool b ≡ bit b
from_bool-bit true = refl
from_bool-bit false = refl

pub bit_le : (b : Bool) → bit b ≤ 1
bit_le true = omega arith
bit_le false = omega arith

pub count-le : (p : ℕ → Bool) (n : ℕ) → count p n ≤ n
unfolding count
count-le p zero = omega arith
count-le p (suc n) = omega (arith, count-le p n, bit_le (p n))

-- One number more, as code counts.
pub count_more : (p : ℕ → Bool) (n : ℕ) → count p (n + 1) ≡ count p n + bit (p n)
unfolding count
count_more p n = rw add-one

pub count_ext : (p q : ℕ → Bool) (n : ℕ) → ((i : ℕ) → i < n → p i ≡ q i) → count p n ≡ count q n
unfolding count
count_ext p q zero h = refl
count_ext p q (suc n) h = rw (count_ext p q n (λ i l. h i (omega arith)), h n (omega arith))

pub count_none : (p : ℕ → Bool) (n : ℕ) → ((i : ℕ) → i < n → p i ≡ false) → count p n ≡ 0
unfolding count
count_none p zero h = refl
count_none p (suc n) h = rw (count_none p n (λ i l. h i (omega arith)), h n (omega arith))

pub count_all : (p : ℕ → Bool) (n : ℕ) → ((i : ℕ) → i < n → p i ≡ true) → count p n ≡ n
unfolding count
count_all p zero h = refl
count_all p (suc n) h = rw (count_all p n (λ i l. h i (omega arith)), h n (omega arith)) (add-one n)

-- A hit is counted.
pub count_some : (p : ℕ → Bool) (n i : ℕ) → i < n → p i ≡ true → 1 ≤ count p n
unfolding count
count_some p zero i h e = absurd (omega arith)
count_some p (suc n) i h e = go (p n) refl (count_some p n i)
  where
    go : (b : Bool) → p n ≡ b → (i < n → p i ≡ true → 1 ≤ count p n) → 1 ≤ count p n + bit (p n)
    go true q ih = rw q (omega arith)
    go false q ih =
        let l : i < n = omega (arith, other) in
        omega (arith, ih l e)
      where
        other : (i ≡ n) → ⊥
        other z = let w : ◌≡◌ {A = Bool} true false = sym e ∙ ap p z ∙ q in let y : ◌≡◌ {A = ℕ} 0 1 = cc in omega arith

-- The numbers that fail are the others.
pub count-not : (p : ℕ → Bool) (n : ℕ) → count (λ i. not (p i)) n ≡ n - count p n
unfolding count
count-not p zero = omega arith
count-not p (suc n) = rw (count-not p n) (go (p n))
  where
    go : (b : Bool) → n - count p n + bit (not b) ≡ suc n - (count p n + bit b)
    go true = omega arith
    go false = omega (arith, count-le p n)

-- Numbers that pass one or the other of two tests of which no number passes both.
pub count-or : (p q : ℕ → Bool) (n : ℕ) → ((i : ℕ) → i < n → p i ≡ true → q i ≡ false) → count (λ i. p i || q i) n ≡ count p n + count q n
unfolding count
count-or p q zero h = refl
count-or p q (suc n) h = rw (count-or p q n (λ i l. h i (omega arith))) (go (p n) (q n) (h n (omega arith)))
  where
    go : (a b : Bool) → (a ≡ true → b ≡ false) → count p n + count q n + bit (a || b) ≡ count p n + bit a + (count q n + bit b)
    go true true f = let w : ◌≡◌ {A = Bool} true false = f refl in let y : ◌≡◌ {A = ℕ} 0 1 = cc in absurd (omega arith)
    go true false f = omega arith
    go false true f = omega arith
    go false false f = omega arith

pub tally-append : (v : ℕ) (l m : List ℕ) → tally v (l ++ m) ≡ tally v l + tally v m
unfolding tally
tally-append v [] m = omega arith
tally-append v (x ∷ l) m = rw (tally-append v l m) (omega arith)

-- A value's tally over a made list counts the places that hold it.
pub tally-tab : (v : ℕ) (f : ℕ → ℕ) (n : ℕ) → tally v (tab f n) ≡ count (λ i. eqb (f i) v) n
unfolding tab count tally
tally-tab v f zero = refl
tally-tab v f (suc n) = rw (tally-append v (tab f n) (f n ∷ []), tally-tab v f n) (omega arith)

-- One place more, as code counts.
pub tally_more : (v : ℕ) (f : ℕ → ℕ) (n : ℕ) → tally v (tab f (n + 1)) ≡ tally v (tab f n) + bit (eqb (f n) v)
tally_more v f n = rw (tally-tab v f (n + 1), tally-tab v f n) (count_more (λ i. eqb (f i) v) n)

pub tally-tab-le : (v : ℕ) (f : ℕ → ℕ) (n : ℕ) → tally v (tab f n) ≤ n
tally-tab-le v f n = rw (tally-tab v f n) (count-le (λ i. eqb (f i) v) n)
