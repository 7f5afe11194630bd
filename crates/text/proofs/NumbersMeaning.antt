-- What the readings mean: exactly one text spells each number, the one that is written for it. `-back`: it is read as the
-- number. `-only`: what is read as the number is that text.
use mathlib.Core.Path.{◌≡◌, refl, sym, ap, ◌∙◌}
use mathlib.Core.Bool.{Bool, true, false, cond, ◌||◌, not}
use mathlib.Core.List.{List, [], ◌∷◌}
use Rattle.std.specs.Prelude.{Option, None, Some}
use Rattle.std.proofs.lemmas.Option.{none-some, same_Some}
use Prim.Native.Nat.{ℕ, zero, suc, ◌+◌, ◌-◌, ◌/◌, ◌%◌, ◌^◌, ◌≤◌, ◌<◌}
use native.Mathlib.Nat.{pow-suc, pow-le-pow_right, le_refl, le_trans}
use native.Mathlib.Omega.{arith}
use native.Mathlib.Decide.{dec_lt, dec_le}
use lib.Dec.{ltb, eqb, lit<, lit≤}
use lib.Ieee.{Float, binary64, of_bits}
use lib.IntN.{ℤ, pos, negsuc}
use lib.Signed.{mag}
use lib.ListN.{length, get_or, drop, get_or-append}
use lib.Seq.{take-length}
use borrow.Author.Tests.{lt-ltb, le-ltb, eq-eqb, ne_eqb, ltb-true, ltb-false, eqb-true}
use Rattle.lists.specs.Base.{first_from}
use Rattle.lists.specs.FirstLaws.{first_from_ge, first_from_is, first_from_before, first_from_at}
use Rattle.lists.specs.AnyLaws.{never, both}
use Rattle.text.specs.Numbers.{digit_of, behind, word_of, canonical, decimal_of, upward, downward, signed_of, double_of, glyph, last_digits_of, digit_count, decimal_text, signed_text}
use Rattle.text.proofs.BehindLaws.{below_is, below_some}
use Rattle.text.proofs.DigitLaws.{length_digits, behind_back, behind-only}

-- How many digits there are: they hold n, and fewer do not.
pub count_is : (n k : ℕ) → n < 2 ^ 64 → 1 ≤ k → n < 10 ^ k → (1 < k → 10 ^ (k - 1) ≤ n) → digit_count n ≡ k
unfolding digit_count
count_is n k h g l few =
    first_from_at (λ j. ltb n (10 ^ j)) 1 20 k g (short (dec_lt 20 k)) (lt-ltb n (10 ^ k) l) (λ j a b. le-ltb n (10 ^ j) (fewer j a b))
  where
    fewer : (j : ℕ) → 1 ≤ j → j < k → 10 ^ j ≤ n
    fewer j a b =
        let p : j ≤ k - 1 = omega arith in
        le_trans (pow-le-pow_right (lit< tt) p) (few (omega arith))

    short : Dec (20 < k) → k < 1 + 20
    short (yes m) = let q : 10 ^ 20 ≤ n = fewer 20 (lit≤ tt) m in absurd (omega arith)
    short (no m) = omega arith

record Counted (n k : ℕ) : Type 0 where
  pub low : 1 ≤ k
  pub high : k ≤ 20
  pub holds : n < 10 ^ k
  pub fewest : 1 < k → 10 ^ (k - 1) ≤ n

counted : (n : ℕ) → n < 2 ^ 64 → Counted n (digit_count n)
unfolding digit_count
counted n h =
    let p : ℕ → Bool = λ k. ltb n (10 ^ k) in
    let k = first_from p 1 20 in
    let few : k ≤ 20 = at_most (dec_lt k 21) in
    record {
      low = first_from_ge p 1 20;
      high = few;
      holds = ltb-true n (10 ^ k) (first_from_is p 1 20 (omega arith));
      fewest = λ l. ltb-false n (10 ^ (k - 1)) (first_from_before p 1 20 (k - 1) (omega arith) (omega arith));
    }
  where
    at_most : Dec (first_from (λ k. ltb n (10 ^ k)) 1 20 < 21) → first_from (λ k. ltb n (10 ^ k)) 1 20 ≤ 20
    at_most (yes l) = omega arith
    at_most (no g) =
        never (lt-ltb n (10 ^ 20) (omega arith)) (first_from_before (λ k. ltb n (10 ^ k)) 1 20 20 (lit≤ tt) (omega arith))

pub decimal_length : (n : ℕ) → n < 2 ^ 64 → (1 ≤ length (decimal_text n)) × (length (decimal_text n) ≤ 20)
decimal_length n h = rw (length_digits 10 (digit_count n) n) ((counted n h).low, (counted n h).high)

-- The first digit is 0 exactly where fewer digits hold the number.
lead_zero : (k n : ℕ) → n < 10 ^ k → get_or (last_digits_of 10 (suc k) n) 0 0 ≡ 48
unfolding last_digits_of
lead_zero zero n h = let z : n ≡ 0 = omega arith in rw z
lead_zero (suc k) n h =
    get_or-append (last_digits_of 10 (suc k) (n / 10)) (glyph (n % 10) ∷ []) 0 0 (rw (length_digits 10 (suc k) (n / 10)) (omega arith))
    ∙ lead_zero k (n / 10) (omega (arith, pow-suc 10 k))

lead_some : (k n : ℕ) → 10 ^ k ≤ n → n < 10 ^ suc k → get_or (last_digits_of 10 (suc k) n) 0 0 ≡ 48 → ⊥
unfolding last_digits_of
lead_some zero n g h e =
    let z : n % 10 ≡ n = omega arith in
    let w : 48 + n ≡ 48 = rw (z, lt-ltb n 10 h) at e in
    omega arith
lead_some (suc k) n g h e =
    lead_some k (n / 10) (omega (arith, pow-suc 10 k)) (omega (arith, pow-suc 10 (suc k)))
    (sym (get_or-append (last_digits_of 10 (suc k) (n / 10)) (glyph (n % 10) ∷ []) 0 0 (rw (length_digits 10 (suc k) (n / 10)) (omega arith))) ∙ e)

canonical-digits : (n k : ℕ) → Counted n k → canonical (last_digits_of 10 k n) ≡ true
canonical-digits n zero c = absurd (omega arith)
canonical-digits n (suc zero) c = rw (length_digits 10 1 n)
canonical-digits n (suc (suc k)) c =
    let l = length_digits 10 (suc (suc k)) n in
    let z : suc (suc k) - 1 ≡ suc k = omega arith in
    let f = lead_some (suc k) n (rw z at (c.fewest (omega arith))) c.holds in
    rw (l, ne_eqb (suc (suc k)) 1 (λ z. omega arith), lt-ltb 0 (suc (suc k)) (omega arith), ne_eqb _ 48 f)

pub decimal_back : (n : ℕ) → n < 2 ^ 64 → decimal_of (decimal_text n) ≡ Some n
unfolding decimal_of
decimal_back n h =
    let c = counted n h in
    rw (canonical-digits n (digit_count n) c, behind_back 10 (lit< tt) (lit≤ tt) (digit_count n) n c.holds) (below_is (2 ^ 64) n h)

-- Text whose first byte is no 0, or which is one byte long, has no digit too many.
lead_needed : (s : List ℕ) (n : ℕ) → canonical s ≡ true → s ≡ last_digits_of 10 (length s) n → 1 < length s → 10 ^ (length s - 1) ≤ n
lead_needed s n c t l = go (dec_le (10 ^ (length s - 1)) n)
  where
    go : Dec (10 ^ (length s - 1) ≤ n) → 10 ^ (length s - 1) ≤ n
    go (yes h) = h
    go (no g) =
        let k : length s ≡ suc (length s - 1) = omega arith in
        let z : get_or s 0 0 ≡ 48 = ap (λ u. get_or u 0 0) (t ∙ ap (λ j. last_digits_of 10 j n) k) ∙ lead_zero (length s - 1) n (omega arith) in
        let one : eqb (length s) 1 ≡ false = ne_eqb (length s) 1 (λ q. omega arith) in
        never {b = eqb (length s) 1 || not (eqb (get_or s 0 0) 48)} (both {a = ltb 0 (length s)} c).1 (rw (one, eq-eqb (get_or s 0 0) 48 z))

spelled_once : (s : List ℕ) (n : ℕ) → canonical s ≡ true → behind 10 0 s ≡ Some n → n < 2 ^ 64 → s ≡ decimal_text n
spelled_once s n c e h =
    let d = behind-only 10 (lit< tt) s (length s) (le_refl _) n (rw (take-length s) e) in
    let t : s ≡ last_digits_of 10 (length s) n = sym (take-length s) ∙ d.0 in
    let some_byte : 0 < length s = ltb-true 0 (length s) (both {a = ltb 0 (length s)} c).0 in
    t ∙ ap (λ k. last_digits_of 10 k n) (sym (count_is n (length s) h some_byte d.1 (lead_needed s n c t)))

pub decimal_only : (s : List ℕ) (n : ℕ) → decimal_of s ≡ Some n → (s ≡ decimal_text n) × (n < 2 ^ 64)
unfolding decimal_of
decimal_only s n e = go (canonical s) refl
  where
    go : (t : Bool) → canonical s ≡ t → (s ≡ decimal_text n) × (n < 2 ^ 64)
    go true c =
        let r = below_some (2 ^ 64) (behind 10 0 s) n (rw c at e) in
        (spelled_once s n c r.0 r.1, r.1)
    go false c = absurd (none-some _ (rw c at e))

-- A decimal begins with no minus.
no_minus : (s : List ℕ) (n : ℕ) → decimal_of s ≡ Some n → eqb (get_or s 0 0) 45 ≡ false
unfolding decimal_of behind digit_of
no_minus [] n e = refl
no_minus (c ∷ s) n e = ne_eqb c 45 (λ q. none-some n (sym (go q (canonical (c ∷ s))) ∙ e))
  where
    go : c ≡ 45 → (t : Bool) → cond t (word_of 10 (c ∷ s)) None ≡ None
    go q true = rw q
    go q false = refl

pub signed_back : (z : ℤ) → mag z < 2 ^ 63 → signed_of (signed_text z) ≡ Some z
unfolding signed_of
signed_back (pos n) h =
    let d = decimal_back n (omega arith) in
    rw (no_minus (decimal_text n) n d, d, lt-ltb n (2 ^ 63) h)
signed_back (negsuc k) h = rw (decimal_back (suc k) (omega arith), lt-ltb k (2 ^ 63) h)

pub signed_only : (s : List ℕ) (z : ℤ) → signed_of s ≡ Some z → (s ≡ signed_text z) × (mag z < 2 ^ 63)
unfolding signed_of
signed_only s z e = go (eqb (get_or s 0 0) 45) refl
  where
    up : (o : Option ℕ) → decimal_of s ≡ o → upward o ≡ Some z → (s ≡ signed_text z) × (mag z < 2 ^ 63)
    up None d u = absurd (none-some _ u)
    up (Some n) d u = small (dec_lt n (2 ^ 63))
      where
        small : Dec (n < 2 ^ 63) → (s ≡ signed_text z) × (mag z < 2 ^ 63)
        small (yes l) =
            let q : pos n ≡ z = same_Some (pos n) z (rw (lt-ltb n (2 ^ 63) l) at u) in
            rw (← q) ((decimal_only s n d).0, l)
        small (no g) = absurd (none-some _ (rw (le-ltb n (2 ^ 63) (omega arith)) at u))

    down : (c : ℕ) (t : List ℕ) → s ≡ c ∷ t → c ≡ 45 → (o : Option ℕ) → decimal_of t ≡ o → downward o ≡ Some z → (s ≡ signed_text z) × (mag z < 2 ^ 63)
    down c t w m None d u = absurd (none-some _ u)
    down c t w m (Some zero) d u = absurd (none-some _ u)
    down c t w m (Some (suc k)) d u = small (dec_lt k (2 ^ 63))
      where
        small : Dec (k < 2 ^ 63) → (s ≡ signed_text z) × (mag z < 2 ^ 63)
        small (yes l) =
            let q : negsuc k ≡ z = same_Some (negsuc k) z (rw (lt-ltb k (2 ^ 63) l) at u) in
            rw (← q) (w ∙ rw m (ap (λ v. 45 ∷ v) (decimal_only t (suc k) d).0), l)
        small (no g) = absurd (none-some _ (rw (le-ltb k (2 ^ 63) (omega arith)) at u))

    minus : (v : List ℕ) → s ≡ v → eqb (get_or v 0 0) 45 ≡ true → downward (decimal_of (drop 1 v)) ≡ Some z → (s ≡ signed_text z) × (mag z < 2 ^ 63)
    minus [] w m u = never {b = false} m refl
    minus (c ∷ t) w m u = down c t w (eqb-true c 45 m) (decimal_of t) refl u

    go : (t : Bool) → eqb (get_or s 0 0) 45 ≡ t → (s ≡ signed_text z) × (mag z < 2 ^ 63)
    go true m = minus s refl m (rw m at e)
    go false m = up (decimal_of s) refl (rw m at e)

pub double_back : (bits : ℕ) → bits < 2 ^ 64 → double_of (last_digits_of 16 16 bits) ≡ Some (of_bits binary64 bits)
unfolding double_of
double_back bits h =
    rw (length_digits 16 16 bits, behind_back 16 (lit< tt) (lit≤ tt) 16 bits h, below_is (2 ^ 64) bits h)

pub double_only : (s : List ℕ) (x : Float) → double_of s ≡ Some x → (bits : ℕ) × (s ≡ last_digits_of 16 16 bits) × (bits < 2 ^ 64) × (x ≡ of_bits binary64 bits)
unfolding double_of
double_only s x e = go (eqb (length s) 16) refl
  where
    word : (o : Option ℕ) → length s ≡ 16 → word_of 16 s ≡ o → (bits : ℕ) × (s ≡ last_digits_of 16 16 bits) × (bits < 2 ^ 64) × (x ≡ of_bits binary64 bits)
    word None l w = absurd (none-some _ (rw (eq-eqb (length s) 16 l, w) at e))
    word (Some bits) l w =
        let r = below_some (2 ^ 64) (behind 16 0 s) bits w in
        let d = behind-only 16 (lit< tt) s (length s) (le_refl _) bits (rw (take-length s) r.0) in (
          bits,
          sym (take-length s) ∙ d.0 ∙ ap (λ k. last_digits_of 16 k bits) l,
          r.1,
          sym (same_Some (of_bits binary64 bits) x (rw (eq-eqb (length s) 16 l, w) at e)),
        )

    go : (t : Bool) → eqb (length s) 16 ≡ t → (bits : ℕ) × (s ≡ last_digits_of 16 16 bits) × (bits < 2 ^ 64) × (x ≡ of_bits binary64 bits)
    go true l = word (word_of 16 s) (eqb-true (length s) 16 l) refl
    go false l = absurd (none-some _ (rw l at e))
