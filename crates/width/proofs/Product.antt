-- The laws behind `embargo_width`. A float is taken as a count of units of 2^-1074 (`Measures`), and each step of the code is said of that count:
-- the product (`product_units`: it is the paper's rounded product), its range, its whole part, and the comparison with that part.
-- The two answers, `width_more` and `width_even`, stand at the end. -0.0 goes through every step as a count of 0.
use Rattle.std.proofs.Common.{◌≡◌, ℕ, ◌+◌, ◌-◌, ◌*◌, ◌/◌, ◌%◌, ◌^◌, ◌<◌, ◌≤◌, Bool, true, false, not, T, ltb, ℤ, pos, sym, refl, ap, ◌∙◌, subst, inl, inr, true≢false, le_trans, le_of_eq, lt_of_lt_of_le, not-suc-le-zero, lt_of_le_of_lt, le_of_lt, zero-lt-suc, mul_assoc, suc-mul, mul_comm, div-lt_iff_lt-mul, eq-zero-or-pos, le_antisymm, lt_of_mul-lt-mul_right, mul-lt-mul_of_pos_right, mul-pos, zero-mul, mul-one, mul_right_comm, not-le_of_lt, div-mul-le_self, le_of_mul-le-mul_right, add-one, arith, lit<, lit≤, eqb→eq, ltb→lt, lt→ltb, nltb→le, pow_pos, pow_mono, shl_lt}
use Prim.Native.Nat.{compare, Ordering}
use native.Mathlib.Nat.{mul-mul-mul_comm, zero-div, min-eq_left, lt-div-mul-add, div-le_of_le-mul}
use lib.Dec.{leb-suc-zero}
use lib.Pow.{shl-shr, le_ones}
use lib.Ieee.{Float, nan, inf, fin, binary64, up, down, size, nearest, round, mul, lt, of_int, to_unsigned, fits}
use lib.Ieee.Digits.{size-lt, size-le}
use lib.Ieee.Fits.{up_pos, down_pos}
use lib.Ieee.Exact.{HasValue, round_exact}
use lib.Ieee.Back.{round_whole}
use lib.Ieee.Nearest.{closest, closest_same, div_same}
use lib.Ieee.Order.{transfer}
use lib.Ieee.Scale.{grid, round_same, round_val}
use Rattle.paper.specs.Width.{units_of, is_fraction, digits, to_nearest, nearest_double, ceiling_of, width_of}
use Rattle.paper.proofs.WidthMeaning.{units_of_none, units_of_exact, digits_lt, digits_le, product_le, ceiling_of-reaches, ceiling_of_least}

-- The float is r units, of which 1.0 has u; -0.0 is none.
abbrev Measures : ℕ → Float → ℕ → Type 0
Measures u nan r = ⊥
Measures u (inf s) r = ⊥
Measures u (fin false m e) r = m * up e * u ≡ r * down e
Measures u (fin true m e) r = (m ≡ 0) × (r ≡ 0)

-- ---- the rounding of the library is the paper's

digits_size : (n : ℕ) → digits n ≡ size n
digits_size n = le_antisymm (digits_le n (size n) (size-lt n)) (size-le n (digits n) (digits_lt n))

nearest_same : (q : ℕ) (o : Ordering) → nearest q o ≡ to_nearest q o
nearest_same q Ordering.lt = refl
nearest_same q Ordering.eq = refl
nearest_same q Ordering.gt = sym (add-one q)

-- `grid` is the library's name for a rounded fraction in units; here the fraction is a / 2 ^ 1074, which is a units
grid_is : (a : ℕ) → grid binary64 a (2 ^ 1074) ≡ nearest_double a
unfolding nearest_double
grid_is a =
    let k = digits a - 53 in
    let drops : size (a * 2 ^ 1074 / 2 ^ 1074) - 53 ≡ k = ap (λ (z : ℕ). size z - 53) (shl-shr a 1074) ∙ ap (λ (z : ℕ). z - 53) (sym (digits_size a)) in
    ap (λ (z : ℕ). closest (a * 2 ^ 1074) (2 ^ 1074 * 2 ^ z) * 2 ^ z) drops
    ∙ ap (λ (z : ℕ). z * 2 ^ k)
    (closest_same (a * 2 ^ 1074) (2 ^ 1074 * 2 ^ k) a (2 ^ k) (mul-pos (pow_pos 1074) (pow_pos k)) (pow_pos k) (mul_assoc a (2 ^ 1074) (2 ^ k))
    ∙ nearest_same (a / 2 ^ k) (compare (a % 2 ^ k * 2) (2 ^ k)))

-- ---- the product

-- a / c is v / u and b / d is n, so a * b / (c * d) is v * n / u
cross : (a b c d v n u : ℕ) → a * u ≡ v * c → b * 1 ≡ n * d → a * b * u ≡ v * n * (c * d)
cross a b c d v n u p q = mul_right_comm a b u ∙ ap (λ (z : ℕ). z * b) p ∙ ap (λ (z : ℕ). v * c * z) (sym (mul-one b) ∙ q) ∙ mul-mul-mul_comm v c n d

-- the machine's product is one rounding of the exact product, in units
mul_is : (m : ℕ) (e : ℤ) (y : Float) (n : ℕ) → T (fits binary64 (fin false m e)) → HasValue y false n 1
    → mul binary64 (fin false m e) y ≡ round binary64 false (units_of (fin false m e) * n) (2 ^ 1074)
unfolding mul
mul_is m e nan n f h = absurd h
mul_is m e (inf s) n f h = absurd h
mul_is m e (fin true b d) n f h = absurd (true≢false h.0)
mul_is m e (fin false b d) n f h =
    round_same binary64 false (m * up e * (b * up d)) (down e * down d) (units_of (fin false m e) * n) (2 ^ 1074) (mul-pos (down_pos e) (down_pos d)) (pow_pos 1074)
    (cross (m * up e) (b * up d) (down e) (down d) (units_of (fin false m e)) n (2 ^ 1074) (units_of_exact false m e f) h.1)

of_positive : (u r : ℕ) (p : Float) → HasValue p false r u → Measures u p r
of_positive u r nan h = h
of_positive u r (inf s) h = h
of_positive u r (fin true m e) h = absurd (true≢false h.0)
of_positive u r (fin false m e) h = h.1

of_negative_zero : (u c : ℕ) (p : Float) → 0 < c → HasValue p true 0 c → Measures u p 0
of_negative_zero u c nan C h = h
of_negative_zero u c (inf s) C h = h
of_negative_zero u c (fin false m e) C h = absurd (true≢false (sym h.0))
of_negative_zero u c (fin true m e) C h =
    elim (eq-zero-or-pos m) [
      | inl z ↦ (z, refl)
      | inr g ↦ absurd (not-suc-le-zero (le_trans (mul-pos (mul-pos g (up_pos e)) C) (le_of_eq (h.1 ∙ zero-mul (down e)))))
    ]

-- The machine's product of -0.0: -0.0 again.
negative_zero_times : (m : ℕ) (e : ℤ) (y : Float) (n : ℕ) → m ≡ 0 → HasValue y false n 1 → Measures (2 ^ 1074) (mul binary64 (fin true m e) y) 0
unfolding mul
negative_zero_times m e nan n z h = absurd h
negative_zero_times m e (inf s) n z h = absurd h
negative_zero_times m e (fin true b d) n z h = absurd (true≢false h.0)
negative_zero_times m e (fin false b d) n z h =
    let c = down e * down d in
    let C : 0 < c = mul-pos (down_pos e) (down_pos d) in
    let none : m * up e * (b * up d) ≡ 0 = ap (λ (x : ℕ). x * up e * (b * up d)) z ∙ ap (λ (x : ℕ). x * (b * up d)) (zero-mul (up e)) ∙ zero-mul (b * up d) in
    of_negative_zero (2 ^ 1074) c (round binary64 true (m * up e * (b * up d)) c) C
    (subst (λ (x : ℕ). HasValue (round binary64 true x c) true 0 c) (sym none)
    (round_exact binary64 true 0 c 0 0 C (lit< tt) (lit< tt) (sym (zero-mul c))))

of_int_value : (n : ℕ) → n < 2 ^ 53 → HasValue (of_int binary64 (pos n)) false n 1
unfolding of_int
of_int_value n h = round_whole binary64 false n (le_of_lt h)

-- The machine's product of a fraction and n is the paper's, in units.
product_units : (x : Float) (n : ℕ) → T (fits binary64 x) → T (is_fraction x) → n < 2 ^ 53
    → Measures (2 ^ 1074) (mul binary64 x (of_int binary64 (pos n))) (nearest_double (units_of x * n))
product_units nan n f h l = absurd h
product_units (inf s) n f h l = absurd h
product_units (fin true m e) n f h l =
    let z : m ≡ 0 = eqb→eq m 0 h in
    let none : nearest_double (units_of (fin true m e) * n) ≡ 0 = ap nearest_double (ap (λ (x : ℕ). x * n) (units_of_none true m e z) ∙ zero-mul n) ∙ nearest_none in
    subst (Measures (2 ^ 1074) (mul binary64 (fin true m e) (of_int binary64 (pos n)))) (sym none)
    (negative_zero_times m e (of_int binary64 (pos n)) n z (of_int_value n l))
  where
    nearest_none : nearest_double 0 ≡ 0
    nearest_none = unfold nearest_double in refl
product_units (fin false m e) n f h l =
    let p = units_of (fin false m e) * n in
    let P = mul binary64 (fin false m e) (of_int binary64 (pos n)) in
    let bound : grid binary64 p (2 ^ 1074) < 2 ^ 2098 =
    lt_of_le_of_lt (le_trans (le_of_eq (grid_is p)) (product_le (fin false m e) n h l)) (lt_of_lt_of_le (shl_lt 53 1074 l) (pow_mono {i = 1127} {j = 2098} (lit≤ tt)))
    in
    of_positive (2 ^ 1074) (nearest_double p) P
    (subst (λ (y : Float). HasValue y false (nearest_double p) (2 ^ 1074)) (sym (mul_is m e (of_int binary64 (pos n)) n f (of_int_value n l)))
    (subst (λ (r : ℕ). HasValue (round binary64 false p (2 ^ 1074)) false r (2 ^ 1074)) (grid_is p) (round_val binary64 p (2 ^ 1074) bound)))

-- ---- what the code does with a product of r units

-- it is above -1,
above_minus_one : (u r : ℕ) (p : Float) → Measures u p r → T (lt (fin true 1 (pos 0)) p)
unfolding lt
above_minus_one u r nan h = h
above_minus_one u r (inf s) h = absurd h
above_minus_one u r (fin false m e) h = lt→ltb 0 (1 * down e + m * up e * 1) (some (down e) (m * up e) (down_pos e))
  where
    some : (d a : ℕ) → 0 < d → 0 < 1 * d + a * 1
    some d a h = omega arith
above_minus_one u r (fin true m e) h = lt→ltb (m * up e * 1) (1 * down e) (none (m * up e) (down e) (ap (λ (x : ℕ). x * up e) h.0 ∙ zero-mul (up e)) (down_pos e))
  where
    none : (a d : ℕ) → a ≡ 0 → 0 < d → a * 1 < 1 * d
    none a d z h = omega arith

-- below 2 ^ 64,
below_limit : (u r : ℕ) (p : Float) → 0 < u → Measures u p r → r < 2 ^ 64 * u → T (lt p (fin false 1 (pos 64)))
unfolding lt
below_limit u r nan U h l = h
below_limit u r (inf s) U h l = absurd h
below_limit u r (fin false m e) U h l =
    lt→ltb (m * up e * 1) (2 ^ 64 * down e)
    (lt_of_mul-lt-mul_right u
    (lt_of_le_of_lt (le_of_eq (ap (λ (x : ℕ). x * u) (mul-one (m * up e)) ∙ h))
    (lt_of_lt_of_le (mul-lt-mul_of_pos_right {m = r} {n = 2 ^ 64 * u} l (down_pos e)) (le_of_eq (mul_right_comm (2 ^ 64) u (down e))))))
below_limit u r (fin true m e) U h l = lt→ltb 0 (m * up e * 1 + 2 ^ 64 * down e) (some (m * up e) (down e) (down_pos e))
  where
    some : (a d : ℕ) → 0 < d → 0 < a * 1 + 2 ^ 64 * d
    some a d h = omega arith

-- its whole part is the quotient by u,
whole_part : (u r : ℕ) (p : Float) → 0 < u → Measures u p r → r < 2 ^ 64 * u → to_unsigned 64 p ≡ r / u
unfolding to_unsigned
whole_part u r nan U h l = absurd h
whole_part u r (inf s) U h l = absurd h
whole_part u r (fin true m e) U h l = sym (ap (λ (x : ℕ). x / u) h.1 ∙ zero-div u)
whole_part u r (fin false m e) U h l =
    let q : m * up e / down e ≡ r / u = div_same (m * up e) (down e) r u (down_pos e) U h in
    min-eq_left (le_ones 64 (subst (λ (x : ℕ). x < 2 ^ 64) (sym q) ((div-lt_iff_lt-mul U).1 l))) ∙ q

-- two tests whose failures are the same fact
pub same_ltb : (a b c d : ℕ) → (b ≤ a → d ≤ c) → (d ≤ c → b ≤ a) → ltb a b ≡ ltb c d
same_ltb a b c d f g = go (ltb a b) (ltb c d) (ltb→lt a b) (nltb→le a b) (ltb→lt c d) (nltb→le c d)
  where
    go : (x y : Bool) → (T x → a < b) → (T (not x) → b ≤ a) → (T y → c < d) → (T (not y) → d ≤ c) → x ≡ y
    go true true p p' q q' = refl
    go true false p p' q q' = absurd (not-le_of_lt (p tt) (g (q' tt)))
    go false true p p' q q' = absurd (not-le_of_lt (q tt) (f (p' tt)))
    go false false p p' q q' = refl

-- and to compare a whole number w with it is to compare w * u with r.
compared : (u w r : ℕ) (a p : Float) → 0 < u → HasValue a false w 1 → Measures u p r → lt a p ≡ ltb (w * u) r
unfolding lt
compared u w r nan p U g h = absurd g
compared u w r (inf s) p U g h = absurd g
compared u w r (fin true b d) p U g h = absurd (true≢false g.0)
compared u w r (fin false b d) nan U g h = absurd h
compared u w r (fin false b d) (inf s) U g h = absurd h
compared u w r (fin false b d) (fin true m e) U g h = sym (ap (λ (x : ℕ). ltb (w * u) x) h.1 ∙ leb-suc-zero (w * u))
compared u w r (fin false b d) (fin false m e) U g h =
    same_ltb (b * up d * down e) (m * up e * down d) (w * u) r
    (λ k. le_trans (le_of_eq (sym (mul-one r))) (transfer r w u 1 (m * up e) (b * up d) (down e) (down d) (down_pos e) (down_pos d) (sym h) (sym g.1) k))
    (λ k. transfer (m * up e) (b * up d) (down e) (down d) r w u 1 U (zero-lt-suc 0) h g.1 (le_trans (le_of_eq (mul-one r)) k))

-- ---- the ceiling, as the code works it out from the whole part

ceiling_more : (r : ℕ) → r / 2 ^ 1074 * 2 ^ 1074 < r → r / 2 ^ 1074 + 1 ≡ ceiling_of r
ceiling_more r h =
    let w = r / 2 ^ 1074 in
    le_antisymm
    (le_trans (le_of_eq (add-one w)) (lt_of_mul-lt-mul_right (2 ^ 1074) {m = w} {n = ceiling_of r} (lt_of_lt_of_le h (ceiling_of-reaches r))))
    (ceiling_of_least r (w + 1) (le_trans (le_of_lt (lt-div-mul-add {a = r} (pow_pos 1074))) (le_of_eq (sym (ap (λ (z : ℕ). z * 2 ^ 1074) (add-one w) ∙ suc-mul w (2 ^ 1074))))))

ceiling_even : (r : ℕ) → r ≤ r / 2 ^ 1074 * 2 ^ 1074 → r / 2 ^ 1074 ≡ ceiling_of r
ceiling_even r h =
    let w = r / 2 ^ 1074 in
    le_antisymm (le_of_mul-le-mul_right {m = w} {n = ceiling_of r} (le_trans (div-mul-le_self r (2 ^ 1074)) (ceiling_of-reaches r)) (pow_pos 1074)) (ceiling_of_least r w h)

-- ---- `rounded_up`: x is a fraction of at most 1048576 rows, and w is the whole part of the machine's product

module _ (x : Float) (n : ℕ) (fit : T (fits binary64 x)) (fraction : is_fraction x ≡ true) (rows : n ≤ 1048576) where
  abbrev product : Float
  product = mul binary64 x (of_int binary64 (pos n))

  abbrev rounded : ℕ
  rounded = nearest_double (units_of x * n)

  is_fraction_lem : T (is_fraction x)
  is_fraction_lem = subst T (sym fraction) tt

  few : n < 2 ^ 53
  few = lt_of_le_of_lt rows (lit< tt)

  measured : Measures (2 ^ 1074) product rounded
  measured = product_units x n fit is_fraction_lem few

  at_most_n : rounded ≤ n * 2 ^ 1074
  at_most_n = product_le x n is_fraction_lem few

  in_range : rounded < 2 ^ 64 * 2 ^ 1074
  in_range = lt_of_le_of_lt at_most_n (mul-lt-mul_of_pos_right {m = n} {n = 2 ^ 64} (lt_of_le_of_lt rows (lit< tt)) (pow_pos 1074))

  pub product_in_range : T (lt (fin true 1 (pos 0)) product) × T (lt product (fin false 1 (pos 64)))
  product_in_range = (above_minus_one (2 ^ 1074) rounded product measured, below_limit (2 ^ 1074) rounded product (pow_pos 1074) measured in_range)

  module _ (w : ℕ) (whole : w ≡ to_unsigned 64 product) where
    whole_is : w ≡ rounded / 2 ^ 1074
    whole_is = whole ∙ whole_part (2 ^ 1074) rounded product (pow_pos 1074) measured in_range

    pub whole_le : w ≤ n
    whole_le = le_trans (le_of_eq whole_is) (div-le_of_le-mul (2 ^ 1074) (le_trans at_most_n (le_of_eq (mul_comm n (2 ^ 1074)))))

    tested : lt (of_int binary64 (pos w)) product ≡ ltb (rounded / 2 ^ 1074 * 2 ^ 1074) rounded
    tested =
        compared (2 ^ 1074) w rounded (of_int binary64 (pos w)) product (pow_pos 1074) (of_int_value w (lt_of_le_of_lt whole_le few)) measured
        ∙ ap (λ (z : ℕ). ltb (z * 2 ^ 1074) rounded) whole_is

    -- the whole part is below the product: one more
    pub width_more : lt (of_int binary64 (pos w)) product ≡ true → w + 1 ≡ width_of x n
    unfolding width_of
    width_more t =
        ap (λ (z : ℕ). z + 1) whole_is ∙ ceiling_more rounded (ltb→lt (rounded / 2 ^ 1074 * 2 ^ 1074) rounded (subst T (sym (sym tested ∙ t)) tt))

    -- and otherwise it is the width
    pub width_even : lt (of_int binary64 (pos w)) product ≡ false → w ≡ width_of x n
    unfolding width_of
    width_even t =
        whole_is ∙ ceiling_even rounded (nltb→le (rounded / 2 ^ 1074 * 2 ^ 1074) rounded (subst (λ (b : Bool). T (not b)) (sym (sym tested ∙ t)) tt))
