-- The turns of reading a number of 64 bits. What is too large stays too large, whatever digits follow.
use mathlib.Core.Path.{◌≡◌, sym, ap, ◌∙◌}
use mathlib.Core.List.{List}
use Rattle.std.specs.Prelude.{None, Some}
use Prim.Native.Nat.{ℕ, ◌+◌, ◌*◌, ◌^◌, ◌≤◌, ◌<◌}
use native.Mathlib.Omega.{arith}
use lib.ListN.{length, get_or, drop}
use Rattle.text.specs.Numbers.{digit_of, below, behind, word_of}
use Rattle.text.proofs.BehindLaws.{below_is, behind_more, behind-not, behind_end, behind-over}

-- The number that is read up to place i.
pub record Read (base : ℕ) (s : List ℕ) (v i : ℕ) : Type 0 where
  pub within : i ≤ length s
  pub short : v < 2 ^ 64
  pub left : behind base 0 s ≡ behind base v (drop i s)

module _ (base : ℕ) (s : List ℕ) (v i : ℕ) (r : Read base s v i) where
  pub word_not : i < length s → None ≡ below base (digit_of (get_or s i 0)) → None ≡ word_of base s
  word_not h e = sym (ap (below (2 ^ 64)) (r.left ∙ behind-not base s v i h (sym e)))

  pub word_over : (d : ℕ) → i < length s → Some d ≡ below base (digit_of (get_or s i 0)) → 0 < base → 2 ^ 64 ≤ v * base + d → None ≡ word_of base s
  word_over d h e b l =
      sym (ap (below (2 ^ 64)) (r.left ∙ behind_more base s v i d h (sym e))
      ∙ behind-over base (2 ^ 64) b (drop (i + 1) s) (v * base + d) l)

  pub word_more : (d : ℕ) → i < length s → Some d ≡ below base (digit_of (get_or s i 0)) → v * base + d < 2 ^ 64 → Read base s (v * base + d) (i + 1)
  word_more d h e l = record { within = omega arith; short = l; left = r.left ∙ behind_more base s v i d h (sym e) }

  pub word_end : length s ≤ i → Some v ≡ word_of base s
  word_end h = sym (ap (below (2 ^ 64)) (r.left ∙ behind_end base s v i h) ∙ below_is (2 ^ 64) v r.short)
