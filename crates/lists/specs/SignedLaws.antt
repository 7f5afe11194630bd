-- A signed 64-bit number is kept as bits; read back it is itself, and so are the tests of two of them.
use Rattle.std.specs.Prelude.{◌≡◌, true, false, ◌&&◌, ◌<◌, ◌^◌, ℤ}
use Rattle.std.proofs.Common.{sym, ◌∙◌, to_z, of_z, to_z-of_z}
use Rattle.std.specs.Int.Signed.{mag, le_z, lt_z}
use Rattle.std.specs.Int.{w64}

pub read : (a : ℤ) → mag a < 2 ^ 63 → to_z w64 (of_z w64 a) ≡ a
read a h = to_z-of_z {w = w64} (record { sfits = h })

pub le_read : (a b : ℤ) → mag a < 2 ^ 63 → mag b < 2 ^ 63 → le_z (to_z w64 (of_z w64 a)) (to_z w64 (of_z w64 b)) ≡ le_z a b
le_read a b h k = rw (read a h, read b k)

pub lt_read : (a b : ℤ) → mag a < 2 ^ 63 → mag b < 2 ^ 63 → lt_z (to_z w64 (of_z w64 a)) (to_z w64 (of_z w64 b)) ≡ lt_z a b
lt_read a b h k = rw (read a h, read b k)

-- Two tests joined by `&&`, as code makes them: on the way where the first passed the answer is the second, on the other it is
-- the first, which failed. Either is the two together.
module _ (a b c d : ℤ) (ka : mag a < 2 ^ 63) (kb : mag b < 2 ^ 63) where
  pub le-and_taken : mag c < 2 ^ 63 → mag d < 2 ^ 63 → le_z (to_z w64 (of_z w64 a)) (to_z w64 (of_z w64 b)) ≡ true → le_z (to_z w64 (of_z w64 c)) (to_z w64 (of_z w64 d)) ≡ le_z a b && le_z c d
  le-and_taken kc kd h = le_read c d kc kd ∙ rw (sym (le_read a b ka kb) ∙ h)

  pub le-and_left : le_z (to_z w64 (of_z w64 a)) (to_z w64 (of_z w64 b)) ≡ false → le_z (to_z w64 (of_z w64 a)) (to_z w64 (of_z w64 b)) ≡ le_z a b && le_z c d
  le-and_left h = h ∙ rw (sym (le_read a b ka kb) ∙ h)
