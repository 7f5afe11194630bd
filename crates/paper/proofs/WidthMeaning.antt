-- What the definitions of specs/Width.antt mean, in the order of that file:
-- - `units_of` is exact for every double, keeps the order of fractions, and is 0 at 0.0 and -0.0 alone;
-- - `digits n` is the number of digits: n < 2 ^ digits n, and 2 ^ j ≤ n for every smaller j;
-- - `nearest_double p` is a double, no double is nearer to p, and where p is halfway between two neighbours it is the one with the even last digit;
--   from these alone it follows that rounding leaves a double as it is and keeps the order;
-- - `ceiling_of u` is the least whole number not below u units;
-- - `width_of x n` is at most n, grows with x and with n, and is 0 only where x or n is.
use mathlib.Core.Path.{◌≡◌, refl, sym, ap, ◌∙◌, subst}
use mathlib.Core.Logic.{◌↔◌, ◌⊎◌, inl, inr, ⊎_elim}
use mathlib.Core.Bool.{Bool, true, false, not, ◌&&◌, ◌||◌}
use Prim.Native.Nat.compare
use Prim.Native.Nat.{ℕ, zero, suc, ◌+◌, ◌-◌, ◌*◌, ◌/◌, ◌%◌, ◌^◌, ◌≤◌, ◌<◌, zero-le, suc-le-suc, compare, Ordering}
use native.Mathlib.Nat.{le_trans, le_of_eq, le_of_lt, le_of_suc-le-suc, eq-or-lt_of_le, eq-zero-or-pos, sub-add_cancel, lt_of_lt_of_le, lt_of_le_of_lt, lt_of_not-le, not-le_of_lt, not-suc-le-zero, zero-lt-suc, pow-suc, one-mul, mul-one, suc-ne-zero, add-zero, add-mul, mul_assoc, mul_comm, le-add_right, suc-mul, mul-zero, zero-mul, mul-pos, mul-le-mul, mul-le-mul_right, le_of_mul-le-mul_right, mod-lt, div-add-mod', lt-div-mul-add, le-div_iff_mul-le, div-lt_iff_lt-mul}
use native.Mathlib.Decide.{dec_le}
use native.Mathlib.Numerals.{add-one}
use native.Mathlib.Omega.{arith}
use lib.Dec.{T, is_le, compare_is_eq, leb, ltb, eqb, leb→le, nleb→lt, ltb→lt, eqb→eq, lit<}
use lib.Pow.{pow_pos, pow_mono, pow-lt, pow-add, shl_lt, shr_lt, high, low}
use lib.IntN.{ℤ, pos, negsuc}
use lib.Ieee.{Float, nan, inf, fin, binary64, up, down, le, fits, of_bits}
use lib.Ieee.Fits.{up_pos, down_pos, and_l, and_r}
use lib.Ieee.Order.{transfer}
use Rattle.paper.specs.Width.{units_of, is_fraction, halvings, digits, last_place, to_nearest, nearest_double, ceiling_of, width_of}

-- ---- units_of

pub units_of_none : (s : Bool) (m : ℕ) (e : ℤ) → m ≡ 0 → units_of (fin s m e) ≡ 0
units_of_none s m (pos k) z = ap (λ (x : ℕ). x * 2 ^ (1074 + k)) z ∙ zero-mul (2 ^ (1074 + k))
units_of_none s m (negsuc k) z = ap (λ (x : ℕ). x * 2 ^ (1074 - suc k)) z ∙ zero-mul (2 ^ (1074 - suc k))

units_of_some : (s : Bool) (m : ℕ) (e : ℤ) → 0 < m → 0 < units_of (fin s m e)
units_of_some s m (pos k) h = mul-pos h (pow_pos (1074 + k))
units_of_some s m (negsuc k) h = mul-pos h (pow_pos (1074 - suc k))

pow_reflects : (i j : ℕ) → 2 ^ i ≤ 2 ^ j → i ≤ j
pow_reflects i j h = le_of_suc-le-suc (lt_of_not-le (λ (g : j < i). not-le_of_lt (pow-lt g) h))

-- m * 2^e is that many units: up e / down e is 2^e, so in whole numbers m * up e / down e ≡ units_of / 2 ^ 1074. A double has no exponent below
-- -1074, so the subtraction in `units_of` stays above 0.
pub units_of_exact : (s : Bool) (m : ℕ) (e : ℤ) → T (fits binary64 (fin s m e)) → m * up e * 2 ^ 1074 ≡ units_of (fin s m e) * down e
unfolding fits
units_of_exact s m (pos k) f =
    mul_assoc m (2 ^ k) (2 ^ 1074)
    ∙ ap (λ (z : ℕ). m * z) (mul_comm (2 ^ k) (2 ^ 1074) ∙ sym (pow-add 2 1074 k))
    ∙ sym (mul-one (m * 2 ^ (1074 + k)))
units_of_exact s zero (negsuc k) f = sym (ap (λ (z : ℕ). z * 2 ^ suc k) (zero-mul (2 ^ (1074 - suc k))) ∙ zero-mul (2 ^ suc k))
units_of_exact s (suc m) (negsuc k) f =
    let short = eqb (suc m % 2) 1 && ltb (suc m) (2 ^ 53) in
    let low_enough = leb (2 ^ suc k) (2 ^ 1074) in
    let test : T low_enough = and_r short low_enough (and_l (short && low_enough) (ltb (suc m * 1) (2 ^ 1024 * 2 ^ suc k)) f) in
    let h : suc k ≤ 1074 = pow_reflects (suc k) 1074 (leb→le (2 ^ suc k) (2 ^ 1074) test) in
    ap (λ (z : ℕ). z * 2 ^ 1074) (mul-one (suc m))
    ∙ ap (λ (z : ℕ). suc m * z) (sym (ap (λ (z : ℕ). 2 ^ z) (sub-add_cancel h)) ∙ pow-add 2 (1074 - suc k) (suc k))
    ∙ sym (mul_assoc (suc m) (2 ^ (1074 - suc k)) (2 ^ suc k))

pow_one : (k : ℕ) → 2 ^ k ≡ 1 → k ≡ 0
pow_one zero e = refl
pow_one (suc k) e = let h : 2 ^ suc k ≡ 2 ^ k * 2 = pow-suc 2 k in omega arith

zero_form : (x : Float) → T (fits binary64 x) → T (is_fraction x) → units_of x ≡ 0 → (x ≡ fin false 0 (pos 0)) ⊎ (x ≡ fin true 0 (pos 0))
unfolding fits
zero_form nan f h e = absurd h
zero_form (inf s) f h e = absurd h
zero_form (fin false zero (pos k)) f h e = inl (ap (λ (z : ℕ). fin false 0 (pos z)) (pow_one k (sym (mul-one (2 ^ k)) ∙ eqb→eq (2 ^ k * 1) 1 f)))
zero_form (fin true zero (pos k)) f h e = inr (ap (λ (z : ℕ). fin true 0 (pos z)) (pow_one k (sym (mul-one (2 ^ k)) ∙ eqb→eq (2 ^ k * 1) 1 f)))
zero_form (fin s zero (negsuc k)) f h e = absurd (suc-ne-zero k (pow_one (suc k) (sym (one-mul (2 ^ suc k)) ∙ eqb→eq (1 * 2 ^ suc k) 1 f)))
zero_form (fin s (suc m) e) f h z = absurd (not-suc-le-zero (le_trans (units_of_some s (suc m) e (zero-lt-suc m)) (le_of_eq z)))

-- Of the doubles that are fractions, 0.0 and -0.0 alone have no units.
pub units_of_zero : (x : Float) → T (fits binary64 x) → T (is_fraction x)
    → (units_of x ≡ 0) ↔ ((x ≡ of_bits binary64 0) ⊎ (x ≡ of_bits binary64 0x8000_0000_0000_0000))
unfolding of_bits
units_of_zero x f h = (
  zero_form x f h,
  ⊎_elim (λ (e : x ≡ fin false 0 (pos 0)). ap units_of e) (λ (e : x ≡ fin true 0 (pos 0)). ap units_of e),
)

pub fraction_le_one : (x : Float) → T (is_fraction x) → units_of x ≤ 2 ^ 1074
fraction_le_one nan h = absurd h
fraction_le_one (inf s) h = absurd h
fraction_le_one (fin false m e) h = le_of_lt (ltb→lt (units_of (fin false m e)) (2 ^ 1074) h)
fraction_le_one (fin true m e) h = le_trans (le_of_eq (units_of_none true m e (eqb→eq m 0 h))) zero-le

-- `<=` is `<` or `==`, of which the second compares signs too (c)
le_of_test : (a b : ℕ) (c : Bool) → T (ltb a b || (eqb a b && c)) → a ≤ b
le_of_test a b c t = go (ltb a b) (eqb a b) (ltb→lt a b) (eqb→eq a b) t
  where
    go : (p q : Bool) → (T p → a < b) → (T q → a ≡ b) → T (p || (q && c)) → a ≤ b
    go true q f g t = le_of_lt (f tt)
    go false true f g t = le_of_eq (g tt)
    go false false f g t = absurd t

-- Of two fractions the one that is not larger has no more units.
pub units_of_mono : (x y : Float) → T (fits binary64 x) → T (fits binary64 y) → T (is_fraction x) → T (is_fraction y) → T (le x y) → units_of x ≤ units_of y
unfolding le
units_of_mono nan y f g h k l = absurd h
units_of_mono (inf s) y f g h k l = absurd h
units_of_mono (fin true m e) y f g h k l = le_trans (le_of_eq (units_of_none true m e (eqb→eq m 0 h))) zero-le
units_of_mono (fin false m e) nan f g h k l = absurd k
units_of_mono (fin false m e) (inf s) f g h k l = absurd k
units_of_mono (fin false m e) (fin true b d) f g h k l =
    let a = m * up e * down d in
    elim (eq-zero-or-pos m) [
      | inl z ↦ le_trans (le_of_eq (units_of_none false m e z)) zero-le
      | inr p ↦
          absurd
          (not-suc-le-zero
          (le_trans (mul-pos (mul-pos p (up_pos e)) (down_pos d)) (le_of_eq (eqb→eq a 0 (and_r (eqb a (b * up d * down e)) (eqb a 0) l)))))
    ]
units_of_mono (fin false m e) (fin false b d) f g h k l =
    let a = m * up e * down d in
    le_of_mul-le-mul_right
    (transfer (units_of (fin false m e)) (units_of (fin false b d)) (2 ^ 1074) (2 ^ 1074) (m * up e) (b * up d) (down e) (down d) (down_pos e) (down_pos d)
    (sym (units_of_exact false m e f)) (sym (units_of_exact false b d g)) (le_of_test a (b * up d * down e) (true || eqb a 0) l))
    (pow_pos 1074)

-- ---- digits

halvings-lt : (most n : ℕ) → n ≤ most → n < 2 ^ halvings most n
unfolding halvings
halvings-lt zero n h = lt_of_le_of_lt h (lit< {m = 0} {n = 1} tt)
halvings-lt (suc most) zero h = lit< tt
halvings-lt (suc most) (suc n) h =
    rw pow-suc ((div-lt_iff_lt-mul (zero-lt-suc 1)).0 (halvings-lt most (suc n / 2) (half n most h)))
  where
    half : (n most : ℕ) → suc n ≤ suc most → suc n / 2 ≤ most
    half n most h = omega arith

halvings-reaches : (most n j : ℕ) → j < halvings most n → 2 ^ j ≤ n
unfolding halvings
halvings-reaches zero n j h = absurd (not-suc-le-zero h)
halvings-reaches (suc most) zero j h = absurd (not-suc-le-zero h)
halvings-reaches (suc most) (suc n) zero h = suc-le-suc zero-le
halvings-reaches (suc most) (suc n) (suc j) h =
    rw pow-suc ((le-div_iff_mul-le (zero-lt-suc 1)).0 (halvings-reaches most (suc n / 2) j (le_of_suc-le-suc h)))

pub digits_lt : (n : ℕ) → n < 2 ^ digits n
unfolding digits
digits_lt n = halvings-lt n n (le_of_eq refl)

pub digits-reaches : (n j : ℕ) → j < digits n → 2 ^ j ≤ n
unfolding digits
digits-reaches n j h = halvings-reaches n n j h

-- So no other number counts the digits.
pub digits_le : (n j : ℕ) → n < 2 ^ j → digits n ≤ j
digits_le n j h = le_of_suc-le-suc (lt_of_not-le (λ (g : j < digits n). not-le_of_lt h (digits-reaches n j g)))

digits_gt : (n j : ℕ) → 2 ^ j ≤ n → j < digits n
digits_gt n j h = lt_of_not-le (λ (g : digits n ≤ j). not-le_of_lt (lt_of_lt_of_le (digits_lt n) (pow_mono g)) h)

-- ---- nearest_double

-- A number of units that a double can have: at most 53 digits, and zeros behind them.
pub record IsDouble (d : ℕ) : Type 0 where
  pub leading : ℕ
  pub zeros : ℕ
  pub short : leading < 2 ^ 53
  pub is : d ≡ leading * 2 ^ zeros

abbrev pub distance : ℕ → ℕ → ℕ
distance a b = (a - b) + (b - a)

-- p lies r above b, with the next multiple at b + u, and d is none of the numbers between. Where r is at most half of u, d is no nearer to p than b;
to_lower : (b r u p d : ℕ) → b + r ≡ p → r * 2 ≤ u → (d ≤ b) ⊎ (b + u ≤ d) → distance b p ≤ distance d p
to_lower b r u p d e h (inl g) = omega arith
to_lower b r u p d e h (inr g) = omega arith

-- where it is at least half, d is no nearer than b + u.
to_upper : (b r u p d : ℕ) → b + r ≡ p → u ≤ r * 2 → r < u → (d ≤ b) ⊎ (b + u ≤ d) → distance (b + u) p ≤ distance d p
to_upper b r u p d e h l (inl g) = omega arith
to_upper b r u p d e h l (inr g) = omega arith

next : (q u : ℕ) → (q + 1) * u ≡ q * u + u
next q u = add-mul q 1 u ∙ ap (λ (x : ℕ). q * u + x) (one-mul u)

step_nearest : (p u d : ℕ) → 0 < u → (d ≤ p / u * u) ⊎ (p / u * u + u ≤ d)
    → distance (to_nearest (p / u) (compare (p % u * 2) u) * u) p ≤ distance d p
step_nearest p u d U g = go (compare (p % u * 2) u) (leb→le (p % u * 2) u) (nleb→lt (p % u * 2) u) (eqb→eq (p % u * 2) u)
  where
    q : ℕ
    q = p / u

    r : ℕ
    r = p % u

    lower : r * 2 ≤ u → distance (q * u) p ≤ distance d p
    lower h = to_lower (q * u) r u p d (div-add-mod' p u) h g

    upper : u ≤ r * 2 → distance ((q + 1) * u) p ≤ distance d p
    upper h = rw next (to_upper (q * u) r u p d (div-add-mod' p u) h (mod-lt p U) g)

    tie : (b : ℕ) → b < 2 → r * 2 ≡ u → distance ((q + b) * u) p ≤ distance d p
    tie zero h e = rw add-zero (lower (le_of_eq e))
    tie (suc zero) h e = upper (le_of_eq (sym e))
    tie (suc (suc b)) h e = absurd (not-suc-le-zero (le_of_suc-le-suc (le_of_suc-le-suc h)))

    go : (o : Ordering) → (T (is_le o) → r * 2 ≤ u) → (T (not (is_le o)) → u < r * 2) → (T (compare_is_eq o) → r * 2 ≡ u)
        → distance (to_nearest q o * u) p ≤ distance d p
    go Ordering.lt le gt eq = lower (le tt)
    go Ordering.eq le gt eq = tie (q % 2) (mod-lt q (zero-lt-suc 1)) (eq tt)
    go Ordering.gt le gt eq = upper (le_of_lt (gt tt))

-- A double lies in no gap between two neighbouring multiples of p's last place. With as many zeros it is such a multiple itself;
multiple_outside : (c q u : ℕ) → (c * u ≤ q * u) ⊎ (q * u + u ≤ c * u)
multiple_outside c q u =
    elim (dec_le c q) [
      | yes h ↦ inl (mul-le-mul_right u h)
      | no h ↦ inr (le_trans (le_of_eq (sym (next q u))) (mul-le-mul_right u (le_trans (le_of_eq (add-one q)) (lt_of_not-le h))))
    ]

-- with fewer, it is at most 2 ^ 52 of them, which p reaches.
fewer_zeros : (p m j : ℕ) → m < 2 ^ 53 → j < digits p - 53 → m * 2 ^ j ≤ p / 2 ^ (digits p - 53) * 2 ^ (digits p - 53)
fewer_zeros p m j small l =
    let k = digits p - 53 in
    let reached : 2 ^ (52 + k) ≤ p = digits-reaches p (52 + k) (top (digits p) j l) in
    let kept : 2 ^ 52 ≤ p / 2 ^ k = (le-div_iff_mul-le (pow_pos k)).1 (le_trans (le_of_eq (sym (pow-add 2 52 k))) reached) in
    le_trans (le_of_lt (shl_lt 53 j small))
    (le_trans (pow_mono (room j k l))
    (le_trans (le_of_eq (pow-add 2 52 k)) (mul-le-mul_right (2 ^ k) kept)))
  where
    top : (z j : ℕ) → j < z - 53 → 52 + (z - 53) < z
    top z j h = omega arith

    room : (j k : ℕ) → j < k → 53 + j ≤ 52 + k
    room j k h = omega arith

double_outside : (p d : ℕ) → IsDouble d → (d ≤ p / last_place p * last_place p) ⊎ (p / last_place p * last_place p + last_place p ≤ d)
unfolding last_place
double_outside p d D =
    let k = digits p - 53 in
    let m = D.leading in
    let j = D.zeros in
    let q = p / 2 ^ k in
    subst (λ (x : ℕ). (x ≤ q * 2 ^ k) ⊎ (q * 2 ^ k + 2 ^ k ≤ x)) (sym D.is)
    (elim (dec_le k j) [
      | yes h ↦
          subst (λ (x : ℕ). (x ≤ q * 2 ^ k) ⊎ (q * 2 ^ k + 2 ^ k ≤ x))
          (mul_assoc m (2 ^ (j - k)) (2 ^ k) ∙ ap (λ (x : ℕ). m * x) (sym (pow-add 2 (j - k) k) ∙ ap (λ (x : ℕ). 2 ^ x) (sub-add_cancel h)))
          (multiple_outside (m * 2 ^ (j - k)) q (2 ^ k))
      | no h ↦ inl (fewer_zeros p m j D.short (lt_of_not-le h))
    ])

last_place_pos : (p : ℕ) → 0 < last_place p
unfolding last_place
last_place_pos p = pow_pos (digits p - 53)

-- No double is nearer to p,
pub nearest_double_nearest : (p d : ℕ) → IsDouble d → distance (nearest_double p) p ≤ distance d p
unfolding nearest_double
nearest_double_nearest p d D = step_nearest p (last_place p) d (last_place_pos p) (double_outside p d D)

-- 2 ^ 53 has a digit too many, and is 1 with 53 zeros
is_double : (q k : ℕ) → q ≤ 2 ^ 53 → IsDouble (q * 2 ^ k)
is_double q k h =
    elim (eq-or-lt_of_le h) [
      | inl e ↦
          record {
            leading = 1;
            zeros = 53 + k;
            short = lit< tt;
            is = ap (λ (x : ℕ). x * 2 ^ k) e ∙ sym (pow-add 2 53 k) ∙ sym (one-mul (2 ^ (53 + k)));
          }
      | inr l ↦ record { leading = q; zeros = k; short = l; is = refl }
    ]

to_nearest-le : (q : ℕ) (o : Ordering) → to_nearest q o ≤ suc q
to_nearest-le q Ordering.lt = omega arith
to_nearest-le q Ordering.eq = omega arith
to_nearest-le q Ordering.gt = omega arith

-- and it is a double itself.
pub nearest_double_is_double : (p : ℕ) → IsDouble (nearest_double p)
unfolding nearest_double
nearest_double_is_double p =
    let k = digits p - 53 in
    let q = p / 2 ^ k in
    let o = compare (p % 2 ^ k * 2) (2 ^ k) in
    is_double (to_nearest q o) k (le_trans (to_nearest-le q o) (shr_lt 53 k (lt_of_lt_of_le (digits_lt p) (pow_mono (cover (digits p))))))
  where
    cover : (z : ℕ) → z ≤ 53 + (z - 53)
    cover z = omega arith

-- What is a double already stays as it is.
pub nearest_double_exact : (d : ℕ) → IsDouble d → nearest_double d ≡ d
nearest_double_exact d D = none_apart (nearest_double d) d (nearest_double_nearest d d D)
  where
    none_apart : (a d : ℕ) → distance a d ≤ distance d d → a ≡ d
    none_apart a d h = omega arith

-- which of y < x is the nearer one says on which side of the middle p lies
upper_nearer : (x y p : ℕ) → y < x → distance x p ≤ distance y p → x + y ≤ p * 2
upper_nearer x y p l h = omega arith

lower_nearer : (x y p : ℕ) → y < x → distance y p ≤ distance x p → p * 2 ≤ x + y
lower_nearer x y p l h = omega arith

-- Rounding keeps the order. Were the results x of a and y of b the other way round, a would lie at or above their middle and b at or below it.
pub nearest_double_mono : (a b : ℕ) → a ≤ b → nearest_double a ≤ nearest_double b
nearest_double_mono a b h =
    let x = nearest_double a in
    let y = nearest_double b in
    elim (dec_le x y) [
      | yes g ↦ g
      | no g ↦
          le_of_eq
          (ap nearest_double
          (same a b (x + y) h
          (upper_nearer x y a (lt_of_not-le g) (nearest_double_nearest a y (nearest_double_is_double b)))
          (lower_nearer x y b (lt_of_not-le g) (nearest_double_nearest b x (nearest_double_is_double a)))))
    ]
  where
    same : (a b s : ℕ) → a ≤ b → s ≤ a * 2 → b * 2 ≤ s → a ≡ b
    same a b s h k l = omega arith

compare_same : (n : ℕ) → compare n n ≡ Ordering.eq
compare_same zero = compare.zero-zero
compare_same (suc n) = compare.suc-suc n n ∙ compare_same n

-- A tie. For a q of 53 digits, q and q + 1 with k + 1 zeros behind each are neighbouring doubles, and q * 2 ^ (k + 1) + 2 ^ k lies halfway between
-- them. It goes to the even one: q where q is even, q + 1 where q is odd. (Smaller neighbours are one unit apart, with no whole number between.)
pub nearest_double_tie : (q k : ℕ) → 2 ^ 52 ≤ q → q < 2 ^ 53
    → (nearest_double (q * 2 ^ suc k + 2 ^ k) ≡ (q + q % 2) * 2 ^ suc k) × ((q + q % 2) % 2 ≡ 0)
unfolding nearest_double
nearest_double_tie q k lo hi =
    let u = 2 ^ suc k in
    let p = q * u + 2 ^ k in
    let half : 2 ^ k < u = pow-lt (le_of_eq refl) in
    let under : p < 2 ^ (53 + suc k) =
    lt_of_lt_of_le (in_gap (q * u) (2 ^ k) u half)
    (le_trans (le_of_eq (sym (next q u))) (le_trans (mul-le-mul_right u (le_trans (le_of_eq (add-one q)) hi)) (le_of_eq (sym (pow-add 2 53 (suc k))))))
    in
    let over : 2 ^ (52 + suc k) ≤ p = le_trans (le_of_eq (pow-add 2 52 (suc k))) (le_trans (mul-le-mul_right u lo) (le-add_right (q * u) (2 ^ k))) in
    let drops : digits p - 53 ≡ suc k = count (digits p) k (digits_le p (53 + suc k) under) (digits_gt p (52 + suc k) over) in (
      ap (λ (z : ℕ). to_nearest (p / 2 ^ z) (compare (p % 2 ^ z * 2) (2 ^ z)) * 2 ^ z) drops
          ∙ ap (λ (z : ℕ). to_nearest z (compare (p % u * 2) u) * u) (high q (suc k) half)
          ∙ ap (λ (z : ℕ). to_nearest q (compare (z * 2) u) * u) (low q (suc k) half)
          ∙ ap (λ (z : ℕ). to_nearest q (compare z u) * u) (sym (pow-suc 2 k))
          ∙ ap (λ (o : Ordering). to_nearest q o * u) (compare_same u),
      even q,
    )
  where
    in_gap : (a b c : ℕ) → b < c → a + b < a + c
    in_gap a b c h = omega arith

    count : (z k : ℕ) → z ≤ 53 + suc k → 52 + suc k < z → z - 53 ≡ suc k
    count z k a b = omega arith

    even : (q : ℕ) → (q + q % 2) % 2 ≡ 0
    even q = omega arith

-- ---- ceiling_of, first over any number v of units to the whole

ceiling_reaches : (u v : ℕ) → 0 < v → u ≤ (u + (v - 1)) / v * v
ceiling_reaches u v some = room u v ((u + (v - 1)) / v * v) some (lt-div-mul-add some)
  where
    room : (u v w : ℕ) → 0 < v → u + (v - 1) < w + v → u ≤ w
    room u v w some h = omega arith

ceiling_least : (u v m : ℕ) → 0 < v → u ≤ m * v → (u + (v - 1)) / v ≤ m
ceiling_least u v m some h = le_of_suc-le-suc ((div-lt_iff_lt-mul some).1 (lt_of_lt_of_le (room u v (m * v) some h) (le_of_eq (sym (suc-mul m v)))))
  where
    room : (u v w : ℕ) → 0 < v → u ≤ w → u + (v - 1) < w + v
    room u v w some h = omega arith

-- It is not below u units,
pub ceiling_of-reaches : (u : ℕ) → u ≤ ceiling_of u * 2 ^ 1074
ceiling_of-reaches u = ceiling_reaches u (2 ^ 1074) (pow_pos 1074)

-- and no smaller whole number is not below them.
pub ceiling_of_least : (u m : ℕ) → u ≤ m * 2 ^ 1074 → ceiling_of u ≤ m
ceiling_of_least u m h = ceiling_least u (2 ^ 1074) m (pow_pos 1074) h

-- ---- width_of

-- n rows are a double, so the rounded product of a fraction and n is at most n rows,
pub product_le : (x : Float) (n : ℕ) → T (is_fraction x) → n < 2 ^ 53 → nearest_double (units_of x * n) ≤ n * 2 ^ 1074
product_le x n f h =
    le_trans
    (nearest_double_mono (units_of x * n) (n * 2 ^ 1074) (le_trans (mul-le-mul_right n (fraction_le_one x f)) (le_of_eq (mul_comm (2 ^ 1074) n))))
    (le_of_eq (nearest_double_exact (n * 2 ^ 1074) (record { leading = n; zeros = 1074; short = h; is = refl })))

-- and the width never exceeds n.
pub width_of-le : (x : Float) (n : ℕ) → T (is_fraction x) → n < 2 ^ 53 → width_of x n ≤ n
unfolding width_of
width_of-le x n f h = ceiling_of_least (nearest_double (units_of x * n)) n (product_le x n f h)

-- A larger fraction, or more rows, never gives a smaller width. `units_of_mono` says which fractions are larger.
pub width_of_mono : (x y : Float) (m n : ℕ) → units_of x ≤ units_of y → m ≤ n → width_of x m ≤ width_of y n
unfolding width_of
width_of_mono x y m n h k =
    let w = nearest_double (units_of y * n) in
    ceiling_of_least (nearest_double (units_of x * m)) (ceiling_of w)
    (le_trans (nearest_double_mono (units_of x * m) (units_of y * n) (mul-le-mul h k)) (ceiling_of-reaches w))

-- one unit is a double, so nothing above 0 rounds to 0
no_product : (p : ℕ) → ceiling_of (nearest_double p) ≡ 0 → p ≡ 0
no_product p e =
    elim (eq-zero-or-pos p) [
      | inl z ↦ z
      | inr h ↦
          absurd
          (not-suc-le-zero
          (le_trans (le_of_eq (sym (nearest_double_exact 1 (record { leading = 1; zeros = 0; short = lit< tt; is = refl }))))
          (le_trans (nearest_double_mono 1 p h)
          (le_trans (ceiling_of-reaches (nearest_double p)) (le_of_eq (ap (λ (z : ℕ). z * 2 ^ 1074) e))))))
    ]

-- The width is 0 exactly where the fraction is 0 (`units_of_zero`: 0.0 or -0.0) or n is.
pub width_of_zero : (x : Float) (n : ℕ) → (width_of x n ≡ 0) ↔ ((units_of x ≡ 0) ⊎ (n ≡ 0))
unfolding width_of
width_of_zero x n = (
  λ e. factor (eq-zero-or-pos (units_of x)) (eq-zero-or-pos n) (no_product (units_of x * n) e),
  ⊎_elim
      (λ (e : units_of x ≡ 0). ap (λ (z : ℕ). ceiling_of (nearest_double z)) (ap (λ (z : ℕ). z * n) e ∙ zero-mul n))
      (λ (e : n ≡ 0). ap (λ (z : ℕ). ceiling_of (nearest_double z)) (ap (λ (z : ℕ). units_of x * z) e ∙ mul-zero (units_of x))),
)
  where
    factor : {a b : ℕ} → (a ≡ 0) ⊎ (0 < a) → (b ≡ 0) ⊎ (0 < b) → a * b ≡ 0 → (a ≡ 0) ⊎ (b ≡ 0)
    factor (inl p) q e = inl p
    factor (inr p) (inl q) e = inr q
    factor (inr p) (inr q) e = absurd (not-suc-le-zero (le_trans (mul-pos p q) (le_of_eq e)))
