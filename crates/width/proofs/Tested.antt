-- The test that `is_fraction` makes, `x >= 0.0 && x < 1.0`, is the paper's: at a NaN, the infinities and -0.0 too.
use Rattle.std.proofs.Common.{◌≡◌, ℕ, zero, suc, ◌+◌, ◌*◌, ◌^◌, ◌<◌, ◌≤◌, Bool, true, false, ◌&&◌, T, eqb, ltb, pos, sym, refl, ap, ◌∙◌, zero-le, le_trans, le_of_eq, not-suc-le-zero, mul-le-mul_right, zero-lt-suc, mul_comm, mul-pos, one-mul, zero-add, zero-mul, mul-one, le_of_mul-le-mul_right, eqb→eq, lt→ltb, pow_pos}
use lib.Dec.{eqb-suc-zero, not_T}
use lib.Ieee.{Float, nan, inf, fin, binary64, up, down, level, lt, le, of_bits, fits}
use lib.Ieee.Bits.{is_true, is_false}
use lib.Ieee.Fits.{up_pos, down_pos}
use lib.Ieee.Order.{le_of_values}
use Rattle.paper.specs.Width.{units_of, is_fraction}
use Rattle.paper.proofs.WidthMeaning.{units_of_exact}
use Rattle.width.proofs.Product.{same_ltb}

-- a / d is v / u, so the one is 1 at least where the other is
one_reached : (a d v u : ℕ) → 0 < d → a * u ≡ v * d → d ≤ a → u ≤ v
one_reached a d v u D e h = le_of_mul-le-mul_right (le_trans (le_of_eq (mul_comm u d)) (le_trans (mul-le-mul_right u h) (le_of_eq e))) D

-- a value m * u / d with the sign set is at least 0.0 only where it is -0.0, and below 1.0 always
negative : (m u d : ℕ) → 0 < u → 0 < d → level false (0 * d) true (m * u * 1) && ltb 0 (m * u * 1 + 1 * d) ≡ eqb m 0
negative zero u d U D = simp (zero-mul, one-mul, zero-add) (is_true (ltb 0 d) (lt→ltb 0 d D))
negative (suc m) u d U D =
    let a = suc m * u * 1 in
    let some : 0 < a = mul-pos (mul-pos (zero-lt-suc m) U) (zero-lt-suc 0) in
    let unlike : eqb (0 * d) a ≡ false =
    is_false (eqb (0 * d) a) (not_T (eqb (0 * d) a) (λ t. not-suc-le-zero (le_trans some (le_of_eq (sym (eqb→eq (0 * d) a t) ∙ zero-mul d)))))
    in
    ap (λ (b : Bool). b && eqb (0 * d) 0 && ltb 0 (a + 1 * d)) unlike ∙ sym (eqb-suc-zero m)

pub test_is : (x : Float) → T (fits binary64 x) → le (of_bits binary64 0) x && lt x (of_bits binary64 0x3ff0_0000_0000_0000) ≡ is_fraction x
unfolding le of_bits
test_is nan f = refl
test_is (inf false) f = refl
test_is (inf true) f = refl
test_is (fin false m e) f =
    let v = units_of (fin false m e) in
    let value : m * up e * 2 ^ 1074 ≡ v * down e = units_of_exact false m e f in
    let not_below : T (le (fin false 0 (pos 0)) (fin false m e)) =
    le_of_values (fin false 0 (pos 0)) (fin false m e) 0 1 (m * up e) (down e) (zero-lt-suc 0) (down_pos e) (refl, refl) (refl, refl) (le_trans (le_of_eq (zero-mul (down e))) zero-le)
    in
    ap (λ (b : Bool). b && ltb (m * up e * 1) (1 * down e)) (is_true (le (fin false 0 (pos 0)) (fin false m e)) not_below)
    ∙ ap (λ (z : ℕ). ltb z (1 * down e)) (mul-one (m * up e))
    ∙ ap (λ (z : ℕ). ltb (m * up e) z) (one-mul (down e))
    ∙ same_ltb (m * up e) (down e) v (2 ^ 1074)
    (one_reached (m * up e) (down e) v (2 ^ 1074) (down_pos e) value)
    (one_reached v (2 ^ 1074) (m * up e) (down e) (pow_pos 1074) (sym value))
test_is (fin true m e) f = negative m (up e) (down e) (up_pos e) (down_pos e)
