-- A test of some number below a bound, as `any` over a range asks it.
use mathlib.Core.Path.{◌≡◌, sym, ap, ◌∙◌}
use mathlib.Core.Bool.{Bool, ◌||◌}
use Prim.Native.Nat.{ℕ, zero, suc, ◌+◌}
use native.Mathlib.Nat.{zero-add}
use native.Mathlib.Omega.{arith}
use Rattle.std.specs.List.{list_any, range_with_len}
use Rattle.lists.specs.Base.{any}
use Rattle.lists.specs.AnyLaws.{any_first, any_zero, any_ext}

any_from : (p : ℕ → Bool) (b m : ℕ) → list_any p (range_with_len b m) ≡ any (λ i. p (b + i)) m
any_from p b zero = sym (any_zero (λ i. p (b + i)))
any_from p b (suc m) =
    let here : b + 0 ≡ b = omega arith in
    rw (any_first (λ i. p (b + i)) m, here)
    (ap (λ t. p b || t)
    (any_from p (b + 1) m ∙ any_ext (λ i. p (b + 1 + i)) (λ i. p (b + suc i)) m (λ i l. ap p (omega arith))))

pub any_range : (p : ℕ → Bool) (n : ℕ) → list_any p (range_with_len 0 n) ≡ any p n
any_range p n = any_from p 0 n ∙ any_ext (λ i. p (0 + i)) p n (λ i l. ap p (zero-add i))
