-- Digits both ways: a number's digits spell it, and digits that spell it are its digits.
use mathlib.Core.Path.{◌≡◌, refl, sym, ap, ◌∙◌}
use mathlib.Core.Bool.{Bool, true, false, ◌&&◌}
use mathlib.Core.List.{List, [], ◌∷◌, ◌++◌}
use Rattle.std.specs.Prelude.{Option, None, Some, option_map, option_and_then}
use Rattle.std.proofs.lemmas.Option.{same_Some}
use Prim.Native.Nat.{ℕ, zero, suc, ◌+◌, ◌*◌, ◌-◌, ◌/◌, ◌%◌, ◌^◌, ◌≤◌, ◌<◌}
use native.Mathlib.Nat.{mod-lt, div-add-mod', div-lt_iff_lt-mul, pow-zero, pow-suc}
use native.Mathlib.Numerals.{add-one}
use native.Mathlib.Omega.{arith}
use native.Mathlib.Decide.{dec_lt}
use lib.Arith.{digits_lt, digits_div, digits_mod}
use lib.Dec.{leb}
use lib.ListN.{length, get_or, take, length-append}
use lib.Seq.{take-suc}
use borrow.Author.Tests.{lt-ltb, le-ltb, le-leb, lt-leb, leb-true}
use Rattle.lists.specs.AnyLaws.{both}
use Rattle.text.specs.Numbers.{digit_of, below, behind, glyph, last_digits_of}
use Rattle.text.proofs.BehindLaws.{below_is, below_some}

-- A digit's byte is that digit.
pub digit_glyph : (d : ℕ) → d < 16 → digit_of (glyph d) ≡ Some d
unfolding digit_of
digit_glyph d h = go (dec_lt d 10)
  where
    go : Dec (d < 10) → digit_of (glyph d) ≡ Some d
    go (yes l) =
        let z : 48 + d - 48 ≡ d = omega arith in
        rw (lt-ltb d 10 l, le-leb 48 (48 + d) (omega arith), le-leb (48 + d) 57 (omega arith), z)
    go (no g) =
        let z : 55 + d - 55 ≡ d = omega arith in
        rw (le-ltb d 10 (omega arith), le-leb 48 (55 + d) (omega arith), lt-leb (55 + d) 57 (omega arith), le-leb 65 (55 + d) (omega arith), le-leb (55 + d) 70 (omega arith), z)

-- No other byte is.
pub glyph_digit : (c d : ℕ) → digit_of c ≡ Some d → glyph d ≡ c
unfolding digit_of
glyph_digit c d e = go (leb 48 c && leb c 57) refl (leb 65 c && leb c 70) refl
  where
    go : (t : Bool) → leb 48 c && leb c 57 ≡ t → (u : Bool) → leb 65 c && leb c 70 ≡ u → glyph d ≡ c
    go true p u q =
        let z : c - 48 ≡ d = same_Some (c - 48) d (rw p at e) in
        let l : 48 ≤ c = leb-true 48 c (both {a = leb 48 c} p).0 in
        let m : c ≤ 57 = leb-true c 57 (both {a = leb 48 c} p).1 in
        rw (lt-ltb d 10 (omega arith)) (omega arith)
    go false p true q =
        let z : c - 55 ≡ d = same_Some (c - 55) d (rw (p, q) at e) in
        let l : 65 ≤ c = leb-true 65 c (both {a = leb 65 c} q).0 in
        rw (le-ltb d 10 (omega arith)) (omega arith)
    go false p false q =
        let w : ◌≡◌ {A = Option ℕ} None (Some d) = rw (p, q) at e in
        absurd cc

pub length_digits : (b k n : ℕ) → length (last_digits_of b k n) ≡ k
unfolding last_digits_of
length_digits b zero n = refl
length_digits b (suc k) n = rw (length-append, length_digits b k (n / b)) (add-one k)

-- A byte more at the end.
abbrev with_digit : ℕ → ℕ → Option ℕ → Option ℕ
with_digit b c o = option_and_then (λ m. option_map (λ d. m * b + d) (below b (digit_of c))) o

behind_snoc : (b c : ℕ) (s : List ℕ) (n : ℕ) → behind b n (s ++ (c ∷ [])) ≡ with_digit b c (behind b n s)
unfolding behind
behind_snoc b c [] n = refl
behind_snoc b c (x ∷ s) n = go (below b (digit_of x)) (λ d. behind_snoc b c s (n * b + d))
  where
    go : (o : Option ℕ) → ((d : ℕ) → behind b (n * b + d) (s ++ (c ∷ [])) ≡ with_digit b c (behind b (n * b + d) s))
        → option_and_then (λ d. behind b (n * b + d) (s ++ (c ∷ []))) o ≡ with_digit b c (option_and_then (λ d. behind b (n * b + d) s) o)
    go None ih = refl
    go (Some d) ih = ih d

-- The last digit of a number and the others.
split_off : (b q d m : ℕ) → d < b → q * b + d ≡ m → (m / b ≡ q) × (m % b ≡ d) × ((k : ℕ) → q < b ^ k → m < b ^ suc k)
split_off b q d m h e =
    rw (← e) (digits_div q h, digits_mod q h, λ k l. rw pow-suc (digits_lt l h))

module _ (b : ℕ) (some-base : 0 < b) where
  pub behind_back : b ≤ 16 → (k n : ℕ) → n < b ^ k → behind b 0 (last_digits_of b k n) ≡ Some n
  unfolding behind last_digits_of
  behind_back h zero n l = let z : 0 ≡ n = omega (arith, pow-zero b) in ap Some z
  behind_back h (suc k) n l =
      let r : n % b < b = mod-lt n some-base in
      let q : n / b < b ^ k = (div-lt_iff_lt-mul some-base).1 (rw pow-suc at l) in
      behind_snoc b (glyph (n % b)) (last_digits_of b k (n / b)) 0
      ∙ rw (behind_back h k (n / b) q, digit_glyph (n % b) (omega arith), below_is b (n % b) r) (ap Some (div-add-mod' n b))

  -- What a digit more at the end was made of.
  taken_apart : (c : ℕ) (o : Option ℕ) (m : ℕ) → with_digit b c o ≡ Some m
      → (q : ℕ) × (d : ℕ) × (o ≡ Some q) × (below b (digit_of c) ≡ Some d) × (q * b + d ≡ m)
  taken_apart c None m e = absurd cc
  taken_apart c (Some q) m e = go (below b (digit_of c)) refl
    where
      go : (o : Option ℕ) → below b (digit_of c) ≡ o
          → (q' : ℕ) × (d : ℕ) × (Some q ≡ Some q') × (below b (digit_of c) ≡ Some d) × (q' * b + d ≡ m)
      go None p =
          let w : ◌≡◌ {A = Option ℕ} None (Some m) = rw p at e in
          absurd cc
      go (Some d) p = (q, d, refl, p, same_Some (q * b + d) m (rw p at e))

  pub behind-only : (s : List ℕ) (k : ℕ) → k ≤ length s → (m : ℕ) → behind b 0 (take k s) ≡ Some m → (take k s ≡ last_digits_of b k m) × (m < b ^ k)
  unfolding behind last_digits_of
  behind-only s zero h m e = let z : 0 ≡ m = same_Some 0 m e in (refl, omega (arith, pow-zero b))
  behind-only s (suc k) h m e =
      let c = get_or s k 0 in
      let t : take (suc k) s ≡ take k s ++ (c ∷ []) = take-suc s k 0 h in
      let r = taken_apart c (behind b 0 (take k s)) m (sym (behind_snoc b c (take k s) 0) ∙ sym (ap (behind b 0) t) ∙ e) in
      let ih = behind-only s k (omega arith) r.0 r.2 in
      let d = below_some b (digit_of c) r.1 r.3 in
      let a = split_off b r.0 r.1 m d.1 r.4 in
      (t ∙ rw (ih.0, a.0, a.1, glyph_digit c r.1 d.0), a.2 k ih.1)
