-- Worked examples of the readings, by computation (01, "Report program"). Bytes are written as numbers: 48 is 0, 57 is 9, 45 is the minus.
use mathlib.Core.Path.{◌≡◌, refl}
use mathlib.Core.List.{List, [], ◌∷◌}
use Rattle.std.specs.Prelude.{None, Some}
use Prim.Native.Nat.{ℕ}
use lib.Ieee.{nan, binary64, of_bits}
use lib.IntN.{pos, negsuc}
use Rattle.lists.specs.Base.{first_from}
use Rattle.text.specs.Numbers.{digit_of, behind, decimal_of, signed_of, double_of, last_digits_of, digit_count, decimal_text, signed_text}

-- 2^64 - 1 is a decimal, and 2^64 is none.
most : List ℕ
most = 49 ∷ 56 ∷ 52 ∷ 52 ∷ 54 ∷ 55 ∷ 52 ∷ 52 ∷ 48 ∷ 55 ∷ 51 ∷ 55 ∷ 48 ∷ 57 ∷ 53 ∷ 53 ∷ 49 ∷ 54 ∷ 49 ∷ 53 ∷ []

over : List ℕ
over = 49 ∷ 56 ∷ 52 ∷ 52 ∷ 54 ∷ 55 ∷ 52 ∷ 52 ∷ 48 ∷ 55 ∷ 51 ∷ 55 ∷ 48 ∷ 57 ∷ 53 ∷ 53 ∷ 49 ∷ 54 ∷ 49 ∷ 54 ∷ []

decimals :
    (decimal_of (48 ∷ []) ≡ Some 0)
    × (decimal_of (49 ∷ 48 ∷ []) ≡ Some 10)
    × (decimal_of most ≡ Some 18446744073709551615)
    × (decimal_of over ≡ None)
    × (decimal_of [] ≡ None)
    × (decimal_of (48 ∷ 55 ∷ []) ≡ None)
    × (decimal_of (43 ∷ 55 ∷ []) ≡ None)
    × (decimal_of (55 ∷ 32 ∷ []) ≡ None)
    × (decimal_of (65 ∷ []) ≡ None)
unfolding decimal_of behind digit_of most over
decimals = (refl, refl, refl, refl, refl, refl, refl, refl, refl)

-- 7, -7, -0, a minus alone, two of them.
signs :
    (signed_of (55 ∷ []) ≡ Some (pos 7))
    × (signed_of (45 ∷ 55 ∷ []) ≡ Some (negsuc 6))
    × (signed_of (45 ∷ 48 ∷ []) ≡ None)
    × (signed_of (45 ∷ []) ≡ None)
    × (signed_of (45 ∷ 45 ∷ 55 ∷ []) ≡ None)
unfolding signed_of behind digit_of
signs = (refl, refl, refl, refl, refl)

-- Sixteen digits: a bit pattern, here 1.0; with lower-case letters, or fewer, none. Patterns of NaNs are one value.
ones : ℕ → List ℕ
ones c = 51 ∷ c ∷ c ∷ 48 ∷ 48 ∷ 48 ∷ 48 ∷ 48 ∷ 48 ∷ 48 ∷ 48 ∷ 48 ∷ 48 ∷ 48 ∷ 48 ∷ 48 ∷ []

doubles :
    (double_of (ones 70) ≡ Some (of_bits binary64 0x3ff0_0000_0000_0000))
    × (double_of (ones 102) ≡ None)
    × (double_of (48 ∷ []) ≡ None)
    × (double_of (55 ∷ 70 ∷ 70 ∷ 56 ∷ 48 ∷ 48 ∷ 48 ∷ 48 ∷ 48 ∷ 48 ∷ 48 ∷ 48 ∷ 48 ∷ 48 ∷ 48 ∷ 48 ∷ []) ≡ Some nan)
    × (double_of (70 ∷ 70 ∷ 70 ∷ 48 ∷ 48 ∷ 48 ∷ 48 ∷ 48 ∷ 48 ∷ 48 ∷ 48 ∷ 48 ∷ 48 ∷ 48 ∷ 48 ∷ 49 ∷ []) ≡ Some nan)
unfolding double_of behind digit_of ones of_bits
doubles = (refl, refl, refl, refl, refl)

-- The texts that are written: 0, 10, -7.
texts :
    (decimal_text 0 ≡ 48 ∷ [])
    × (decimal_text 10 ≡ 49 ∷ 48 ∷ [])
    × (decimal_text 18446744073709551615 ≡ most)
    × (signed_text (negsuc 6) ≡ 45 ∷ 55 ∷ [])
unfolding last_digits_of digit_count first_from most
texts = (refl, refl, refl, refl)
