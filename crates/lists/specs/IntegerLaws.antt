-- The order of whole numbers as the tests `le_z` and `lt_z` decide it: reflexive, transitive, total.
use Rattle.std.specs.Prelude.{◌≡◌, refl, true, false, ℤ, pos, negsuc}
use Rattle.std.proofs.Common.{arith, leb-true, ltb-true, ltb-false, le-leb}
use Rattle.std.specs.Int.Signed.{le_z, lt_z}
use Rattle.std.proofs.lemmas.Bool.{lt-leb}
use Rattle.lists.specs.AnyLaws.{never}

pub le_z_refl : (a : ℤ) → le_z a a ≡ true
le_z_refl (pos a) = le-leb a a (omega arith)
le_z_refl (negsuc a) = le-leb a a (omega arith)

pub le_z_trans : (a b c : ℤ) → le_z a b ≡ true → le_z b c ≡ true → le_z a c ≡ true
le_z_trans (pos a) (pos b) (pos c) h k = le-leb a c (omega (arith, leb-true a b h, leb-true b c k))
le_z_trans (pos a) (pos b) (negsuc c) h k = never {b = false} k refl
le_z_trans (pos a) (negsuc b) (pos c) h k = never {b = false} h refl
le_z_trans (pos a) (negsuc b) (negsuc c) h k = never {b = false} h refl
le_z_trans (negsuc a) (pos b) (pos c) h k = refl
le_z_trans (negsuc a) (pos b) (negsuc c) h k = never {b = false} k refl
le_z_trans (negsuc a) (negsuc b) (pos c) h k = refl
le_z_trans (negsuc a) (negsuc b) (negsuc c) h k = le-leb c a (omega (arith, leb-true b a h, leb-true c b k))

-- Less is no more.
pub lt_z_le_z : (a b : ℤ) → lt_z a b ≡ true → le_z a b ≡ true
lt_z_le_z (pos a) (pos b) h = le-leb a b (omega (arith, ltb-true a b h))
lt_z_le_z (pos a) (negsuc b) h = h
lt_z_le_z (negsuc a) (pos b) h = h
lt_z_le_z (negsuc a) (negsuc b) h = le-leb b a (omega (arith, ltb-true b a h))

-- Not less is at least.
pub lt_z_not : (a b : ℤ) → lt_z a b ≡ false → le_z b a ≡ true
lt_z_not (pos a) (pos b) h = le-leb b a (omega (arith, ltb-false a b h))
lt_z_not (pos a) (negsuc b) h = refl
lt_z_not (negsuc a) (pos b) h = never {b = true} refl h
lt_z_not (negsuc a) (negsuc b) h = le-leb a b (omega (arith, ltb-false b a h))

-- Less is not at least.
pub lt_z_above : (a b : ℤ) → lt_z a b ≡ true → le_z b a ≡ false
lt_z_above (pos a) (pos b) h = lt-leb b a (ltb-true a b h)
lt_z_above (pos a) (negsuc b) h = never {b = false} h refl
lt_z_above (negsuc a) (pos b) h = refl
lt_z_above (negsuc a) (negsuc b) h = lt-leb a b (ltb-true b a h)
