-- The embargo width (01, "Purge, embargo, marks"): the fraction times n, rounded once to the nearest double, then the smallest whole number
-- not below it. And which doubles are fractions: those in [0,1).
-- Every finite double is a whole multiple of 2^-1074, the smallest positive one. Here that is the unit, and sizes are counts of it: 1.0 is
-- 2 ^ 1074 units, the exact product is a product of whole numbers, and to round is to divide and look at the remainder.
-- The laws that say what these definitions mean stand in proofs/WidthMeaning.antt, the worked examples in proofs/Examples.antt and proofs/WidthExamples.antt.
use Prim.Native.Nat.{ℕ, zero, suc, ◌+◌, ◌-◌, ◌*◌, ◌/◌, ◌%◌, ◌^◌, compare, Ordering}
use Rattle.std.specs.Prelude.{Bool, true, false, pos, negsuc, ltb, eqb, Float}
use Rattle.std.specs.Float.{nan, inf, fin}

-- The size of a double in units. A finite one is m * 2^e with its sign s apart, so -0.0 is 0 units as 0.0 is. `pos k` is the exponent k and
-- `negsuc k` is -(k + 1), which in a double is -1074 at least. A NaN and the infinities, which are no fractions, count as 0.
abbrev pub units_of : Float → ℕ
units_of nan = 0
units_of (inf s) = 0
units_of (fin s m (pos k)) = m * 2 ^ (1074 + k)
units_of (fin s m (negsuc k)) = m * 2 ^ (1074 - suc k)

-- Does the double lie in [0,1)? A NaN and the infinities do not, and of those with the sign set only -0.0 does.
abbrev pub is_fraction : Float → Bool
is_fraction nan = false
is_fraction (inf s) = false
is_fraction (fin true m e) = eqb m 0
is_fraction (fin false m e) = ltb (units_of (fin false m e)) (2 ^ 1074)

-- How many times n can be halved until it is 0, counted up to `most`.
unfoldable pub halvings : ℕ → ℕ → ℕ
halvings zero n = 0
halvings (suc most) zero = 0
halvings (suc most) (suc n) = suc (halvings most (suc n / 2))

-- How many binary digits n has; 0 has none. n halvings are always enough.
unfoldable pub digits : ℕ → ℕ
unfolding halvings
digits n = halvings n n

-- A double keeps the 53 leading digits of p. This is what the last of them counts for: 1 unit where p has no more than 53.
unfoldable pub last_place : ℕ → ℕ
unfolding digits
last_place p = 2 ^ (digits p - 53)

-- The quotient q or the next one, whichever is nearer: by how twice the remainder compares with the divisor. At a tie, the even one.
abbrev pub to_nearest : ℕ → Ordering → ℕ
to_nearest q Ordering.lt = q
to_nearest q Ordering.eq = q + q % 2
to_nearest q Ordering.gt = q + 1

-- The double nearest to p units, in units; at a tie, the one whose last digit is even. A fraction of the rows is far too small to overflow.
unfoldable pub nearest_double : ℕ → ℕ
unfolding last_place
nearest_double p = to_nearest (p / last_place p) (compare (p % last_place p * 2) (last_place p)) * last_place p

-- The smallest whole number not below u units.
abbrev pub ceiling_of : ℕ → ℕ
ceiling_of u = (u + (2 ^ 1074 - 1)) / 2 ^ 1074

-- The embargo width for the fraction x of n rows.
unfoldable pub width_of : Float → ℕ → ℕ
unfolding nearest_double
width_of x n = ceiling_of (nearest_double (units_of x * n))
