-- Laws of `below` and `behind`: a digit more, a byte that is none, the end, and that digits make no number less.
use mathlib.Core.Path.{◌≡◌, refl, sym, ◌∙◌}
use mathlib.Core.List.{List, [], ◌∷◌}
use Rattle.std.specs.Prelude.{Option, None, Some, option_and_then}
use Rattle.std.proofs.lemmas.Option.{same_Some}
use Prim.Native.Nat.{ℕ, ◌+◌, ◌*◌, ◌≤◌, ◌<◌}
use native.Mathlib.Nat.{le-mul_of_pos_right}
use native.Mathlib.Numerals.{add-one}
use native.Mathlib.Omega.{arith}
use native.Mathlib.Decide.{dec_lt}
use lib.ListN.{length, get_or, drop, drop_of_length-le}
use lib.Seq.{drop-cons}
use borrow.Author.Tests.{lt-ltb, le-ltb}
use Rattle.text.specs.Numbers.{digit_of, below, behind}

pub below_is : (m n : ℕ) → n < m → below m (Some n) ≡ Some n
below_is m n h = rw (lt-ltb n m h)

pub below_not : (m n : ℕ) → m ≤ n → below m (Some n) ≡ None
below_not m n h = rw (le-ltb n m h)

-- What passes is the number, and is below.
pub below_some : (m : ℕ) (o : Option ℕ) (n : ℕ) → below m o ≡ Some n → (o ≡ Some n) × (n < m)
below_some m None n e = absurd cc
below_some m (Some k) n e = go (dec_lt k m)
  where
    go : Dec (k < m) → (Some k ≡ Some n) × (n < m)
    go (yes l) =
        let q : k ≡ n = same_Some k n (sym (below_is m k l) ∙ e) in
        (rw q, omega arith)
    go (no g) =
        let w : ◌≡◌ {A = Option ℕ} None (Some n) = sym (below_not m k (omega arith)) ∙ e in
        absurd cc

module _ (base : ℕ) (s : List ℕ) (n i : ℕ) where
  pub behind_more : (d : ℕ) → i < length s → below base (digit_of (get_or s i 0)) ≡ Some d → behind base n (drop i s) ≡ behind base (n * base + d) (drop (i + 1) s)
  unfolding behind
  behind_more d h e = rw (drop-cons s i 0, e, add-one)

  pub behind-not : i < length s → below base (digit_of (get_or s i 0)) ≡ None → behind base n (drop i s) ≡ None
  unfolding behind
  behind-not h e = rw (drop-cons s i 0, e)

  pub behind_end : length s ≤ i → behind base n (drop i s) ≡ Some n
  unfolding behind
  behind_end h = rw (drop_of_length-le s h)

-- A number that is not below m is not below it with more digits either.
pub behind-over : (base m : ℕ) → 0 < base → (s : List ℕ) (n : ℕ) → m ≤ n → below m (behind base n s) ≡ None
unfolding behind
behind-over base m b [] n h = below_not m n h
behind-over base m b (c ∷ s) n h = go (below base (digit_of c)) (λ d l. behind-over base m b s (n * base + d) l)
  where
    go : (o : Option ℕ) → ((d : ℕ) → m ≤ n * base + d → below m (behind base (n * base + d) s) ≡ None)
        → below m (option_and_then (λ d. behind base (n * base + d) s) o) ≡ None
    go None ih = refl
    go (Some d) ih = ih d (omega (arith, le-mul_of_pos_right n b))
