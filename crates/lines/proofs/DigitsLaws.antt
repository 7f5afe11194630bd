-- The kit's decimal digits are those of `decimal_text`.
use mathlib.Core.Path.{◌≡◌, refl, sym, ap, ◌∙◌}
use mathlib.Core.List.{List}
use Prim.Native.Nat.{ℕ, zero, suc, ◌/◌, ◌%◌, ◌^◌, ◌<◌}
use native.Mathlib.Nat.{mod-lt}
use lib.Dec.{lit<}
use lib.ListN.{take}
use borrow.Author.Tests.{lt-ltb}
use Rattle.io.specs.Digits.{last_digits, IsDigitCount}
use Rattle.text.specs.Numbers.{last_digits_of, decimal_text}
use Rattle.text.proofs.NumbersMeaning.{count_is}

digits_same : (k n : ℕ) → last_digits 10 k n ≡ last_digits_of 10 k n
unfolding last_digits_of
digits_same zero n = refl
digits_same (suc k) n = rw (digits_same k (n / 10), lt-ltb (n % 10) 10 (mod-lt n (lit< tt)))

pub decimal_digits : (n k : ℕ) (out : List ℕ) → n < 2 ^ 64 → IsDigitCount 10 1 n k → take k out ≡ last_digits 10 k n → take k out ≡ decimal_text n
decimal_digits n k out h f e = e ∙ digits_same k n ∙ ap (λ j. last_digits_of 10 j n) (sym (count_is n k h f.0 f.1 f.2))
