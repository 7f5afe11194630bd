-- The first fold that ends past a row, as `find` gives it.
use mathlib.Core.Path.{◌≡◌, refl, sym, ap, ◌∙◌}
use mathlib.Core.Bool.{Bool, true, false, cond}
use Prim.Native.Nat.{ℕ, zero, suc, ◌+◌, ◌-◌, ◌≤◌, ◌<◌}
use native.Mathlib.Decide.{dec_lt}
use native.Mathlib.Omega.{arith}
use native.Mathlib.Nat.{zero-add}
use native.Mathlib.Numerals.{add-one}
use borrow.Author.Tests.{lt-ltb, le-ltb}
use lib.Dec.{ltb}
use Rattle.std.specs.Prelude.{None, Some}
use Rattle.std.specs.Option.{option_map}
use Rattle.std.specs.List.{find, range_with_len}
use Rattle.lists.specs.Base.{first, first_from}
use Rattle.lists.specs.AnyLaws.{never}
use Rattle.lists.specs.FirstLaws.{first_before, first_from_ext, first_from_none}
use Rattle.paper.specs.Folds.{even_border, even_borders, fold_of, border}
use Rattle.paper.proofs.FoldsMeaning.{border_even, even_border_closed, even_border-le, even_border_all}
use Rattle.folds.specs.Found.{fold_found}

find_from : (t : ℕ → Bool) (b m : ℕ) → find t (range_with_len b m) ≡ cond (ltb (first_from t b m) (b + m)) (Some (first_from t b m)) None
unfolding first_from
find_from t b zero = rw (le-ltb b (b + 0) (omega arith))
find_from t b (suc m) = go (t b) refl (find_from t (suc b) m)
  where
    go : (v : Bool) → t b ≡ v
        → find t (range_with_len (suc b) m) ≡ cond (ltb (first_from t (suc b) m) (suc b + m)) (Some (first_from t (suc b) m)) None
        → find t (range_with_len b (suc m)) ≡ cond (ltb (first_from t b (suc m)) (b + suc m)) (Some (first_from t b (suc m))) None
    go true e more = rw (e, lt-ltb b (b + suc m) (omega arith))
    go false e more = let d : suc b + m ≡ b + suc m = omega arith in rw (e, add-one b, more, d)

module _ (n N row : ℕ) where
  -- Fold f ends past the row.
  abbrev ends_past : ℕ → Bool
  ends_past f = ltb row (even_border n N (f + 1))

  first_ends : first ends_past N ≡ fold_of (even_borders n N) N row
  first_ends = first_from_ext ends_past (λ f. ltb row (border (even_borders n N) (f + 1))) 0 N (λ f o l. sym (ap (ltb row) (border_even n N (f + 1) (omega arith))))

  border_within : (f : ℕ) → f ≤ N → even_border n N f ≤ n
  border_within f h = rw (even_border_closed n N f) (even_border-le n N f h)

  -- A row past the last is in none, any other in some.
  found_none : n ≤ row → first ends_past N ≡ N
  found_none h =
      first_from_none ends_past 0 N (λ f o l. le-ltb row (even_border n N (f + 1)) (omega (arith, border_within (f + 1) (omega arith)))) ∙ zero-add N

  found_some : row < n → 0 < N → first ends_past N < N
  found_some h some = go (dec_lt (first ends_past N) N)
    where
      go : Dec (first ends_past N < N) → first ends_past N < N
      go (yes l) = l
      go (no k) =
          let z : N - 1 + 1 ≡ N = omega arith in
          never (lt-ltb row (even_border n N (N - 1 + 1)) (rw (z, even_border_all n N some) h)) (first_before ends_past N (N - 1) (omega arith))

  pub found_is : option_map (λ f. record { 0 = f }) (find ends_past (range_with_len 0 N)) ≡ fold_found n N row
  found_is = go (dec_lt row n) (dec_lt 0 N)
    where
      go : Dec (row < n) → Dec (0 < N) → option_map (λ f. record { 0 = f }) (find ends_past (range_with_len 0 N)) ≡ fold_found n N row
      go (yes l) (yes k) =
          rw (find_from ends_past 0 N, zero-add N, lt-ltb (first ends_past N) N (found_some l k), first_ends, lt-ltb row n l, lt-ltb 0 N k)
      go (yes l) (no k) =
          let z : N ≡ 0 = omega arith in
          rw (z, lt-ltb row n l)
      go (no g) d =
          rw (find_from ends_past 0 N, zero-add N, le-ltb (first ends_past N) N (omega (arith, found_none (omega arith))), le-ltb row n (omega arith))
