-- What bytes spell (01, "Report program"): decimals without a leading zero, unsigned and signed within 64 bits, the 16
-- upper-case hex digits of a double, and one letter. `None` says that the bytes spell nothing of the kind. Then the texts that
-- spell numbers; that the two ways fit each other is proofs/NumbersMeaning.antt.
use Rattle.std.specs.Prelude.{Bool, cond, ◌&&◌, ◌||◌, not, List, [], ◌∷◌, ◌++◌, ℕ, zero, suc, ◌+◌, ◌*◌, ◌-◌, ◌/◌, ◌%◌, ◌^◌, leb, ltb, eqb, Float, ℤ, pos, negsuc, length, get_or, drop, Option, None, Some, option_map, option_and_then}
use Rattle.std.specs.Float.{binary64}
use Rattle.std.specs.Float.Ieee.{of_bits}
use Rattle.lists.specs.Base.{first_from}

-- The digit that a byte is: 0 to 9, and A to F for ten to fifteen. No other byte is one.
unfoldable pub digit_of : ℕ → Option ℕ
digit_of c = cond (leb 48 c && leb c 57) (Some (c - 48)) (cond (leb 65 c && leb c 70) (Some (c - 55)) None)

-- The number, where it is below m.
abbrev pub below : ℕ → Option ℕ → Option ℕ
below m None = None
below m (Some n) = cond (ltb n m) (Some n) None

-- The number that the digits s spell in a base behind those of n.
unfoldable pub behind : ℕ → ℕ → List ℕ → Option ℕ
behind base n [] = Some n
behind base n (c ∷ s) = option_and_then (λ d. behind base (n * base + d) s) (below base (digit_of c))

-- The number of 64 bits that s spells in a base.
abbrev pub word_of : ℕ → List ℕ → Option ℕ
word_of base s = below (2 ^ 64) (behind base 0 s)

-- Some byte, and no 0 in front of another.
abbrev pub canonical : List ℕ → Bool
canonical s = ltb 0 (length s) && (eqb (length s) 1 || not (eqb (get_or s 0 0) 48))

unfoldable pub decimal_of : List ℕ → Option ℕ
decimal_of s = cond (canonical s) (word_of 10 s) None

-- A number from 0 up to 2^63 - 1, from -1 down to -2^63.
abbrev pub upward : Option ℕ → Option ℤ
upward None = None
upward (Some n) = cond (ltb n (2 ^ 63)) (Some (pos n)) None

abbrev pub downward : Option ℕ → Option ℤ
downward None = None
downward (Some zero) = None
downward (Some (suc k)) = cond (ltb k (2 ^ 63)) (Some (negsuc k)) None

-- A decimal, or a minus and a decimal that is not 0.
unfoldable pub signed_of : List ℕ → Option ℤ
unfolding decimal_of
signed_of s = cond (eqb (get_or s 0 0) 45) (downward (decimal_of (drop 1 s))) (upward (decimal_of s))

-- The double with these bits, the highest first. Every pattern of a NaN is the one NaN.
unfoldable pub double_of : List ℕ → Option Float
double_of s = cond (eqb (length s) 16) (option_map (of_bits binary64) (word_of 16 s)) None

-- A letter is one byte, whichever it is.
abbrev pub letter_of : List ℕ → Option ℕ
letter_of [] = None
letter_of (c ∷ []) = Some c
letter_of (c ∷ d ∷ s) = None

-- The other way: a digit's byte, the last k digits of n in a base, and the texts that are written for numbers.
abbrev pub glyph : ℕ → ℕ
glyph d = cond (ltb d 10) (48 + d) (55 + d)

unfoldable pub last_digits_of : ℕ → ℕ → ℕ → List ℕ
last_digits_of base zero n = []
last_digits_of base (suc k) n = last_digits_of base k (n / base) ++ (glyph (n % base) ∷ [])

-- How many decimal digits hold n, and one at least. 20 hold every number of 64 bits; more are not looked at.
unfoldable pub digit_count : ℕ → ℕ
digit_count n = first_from (λ k. ltb n (10 ^ k)) 1 20

abbrev pub decimal_text : ℕ → List ℕ
decimal_text n = last_digits_of 10 (digit_count n) n

abbrev pub signed_text : ℤ → List ℕ
signed_text (pos n) = decimal_text n
signed_text (negsuc k) = 45 ∷ decimal_text (suc k)
