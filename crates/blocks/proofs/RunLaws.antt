-- A value folded with the rest of a list is the running join of the list's places: of any values, and of times.
use mathlib.Core.Path.{◌≡◌, refl, ap, ap₂, ◌∙◌}
use mathlib.Core.List.{List}
use Prim.Native.Nat.{ℕ, zero, suc, ◌+◌, ◌-◌, ◌≤◌, ◌<◌}
use native.Mathlib.Omega.{arith}
use Rattle.std.proofs.Common.{length, get_or, take, drop, length-drop, fold, take-suc, ℤ, pos, ◌^◌}
use Rattle.std.proofs.Common.{◌∙◌, to_z, of_z}
use Rattle.std.specs.Int.Signed.{mag}
use Rattle.std.specs.Int.{w64}
use Rattle.lists.specs.SignedLaws.{read}
use Rattle.std.proofs.lemmas.List.{get_or-drop}
use Rattle.std.proofs.lemmas.List.Sums.{fold_push}
use Rattle.lists.specs.Base.{join_from, over}

module _ {A : Type 0} (op : A → A → A) (d : A) (l : List A) (b : ℕ) where
  joined : (m : ℕ) → b + m < length l → fold op (get_or l b d) (take m (drop (b + 1) l)) ≡ join_from op (λ i. get_or l i d) b m
  unfolding join_from
  joined zero h = refl
  joined (suc m) h =
      let more : m < length (drop (b + 1) l) = omega (arith, length-drop (b + 1) l) in
      let here : b + 1 + m ≡ b + suc m = omega arith in
      rw (take-suc (drop (b + 1) l) m d more, fold_push op)
      (ap₂ op (joined m (omega arith)) (get_or-drop (b + 1) l m d ∙ ap (λ i. get_or l i d) here))

  pub folded : (e : ℕ) → b < e → e ≤ length l → fold op (get_or l b d) (take (e - (b + 1)) (drop (b + 1) l)) ≡ over op (λ i. get_or l i d) b e
  folded e h k = let z : e - (b + 1) ≡ e - b - 1 = omega arith in rw z (joined (e - b - 1) (omega arith))

-- The same of times, as the code hands the fold out.
pub run_read :
    (op : ℤ → ℤ → ℤ) (l : List ℤ) (b e : ℕ) (r : ℤ) → mag r < 2 ^ 63 → r ≡ fold op (get_or l b (pos 0)) (take (e - (b + 1)) (drop (b + 1) l)) →
    b < e → e ≤ length l → to_z w64 (of_z w64 r) ≡ over op (λ i. get_or l i (pos 0)) b e
run_read op l b e r fits run some within = read r fits ∙ run ∙ folded op (pos 0) l b e some within
