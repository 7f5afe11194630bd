-- Laws of `over`: its start, one value more, a value that it attains, and that it bounds them all.
use Rattle.std.specs.Prelude.{◌≡◌, refl, ◌⊎◌}
use Rattle.std.proofs.Common.{ap, ◌∙◌}
use Prim.Native.Nat.{ℕ, zero, suc, ◌+◌, ◌-◌, ◌≤◌, ◌<◌}
use native.Mathlib.Omega.{arith}
use Rattle.std.proofs.Math.Decide.{dec_lt}
use Rattle.std.proofs.Math.Logic.{⊎_elim}
use Rattle.lists.specs.Base.{join_from, over}

module _ {A : Type 0} (op : A → A → A) (f : ℕ → A) where
  pub over_one : (b : ℕ) → over op f b (b + 1) ≡ f b
  unfolding join_from
  over_one b = let z : b + 1 - b - 1 ≡ 0 = omega arith in rw z

  -- One value more, as code joins.
  pub over_more : (b e : ℕ) → b < e → over op f b (e + 1) ≡ op (over op f b e) (f e)
  unfolding join_from
  over_more b e h =
      let z : e + 1 - b - 1 ≡ suc (e - b - 1) = omega arith in
      let y : b + suc (e - b - 1) ≡ e = omega arith in
      rw z (ap (λ x. op (join_from op f b (e - b - 1)) (f x)) y)

  -- The join of an operation that gives one of the two is one of the values.
  join_from_place : ((x y : A) → (op x y ≡ x) ⊎ (op x y ≡ y)) → (b m : ℕ) → (i : ℕ) × (b ≤ i) × (i ≤ b + m) × (join_from op f b m ≡ f i)
  unfolding join_from
  join_from_place picks b zero = (b, omega arith, omega arith, refl)
  join_from_place picks b (suc m) =
      let r = join_from_place picks b m in
      ⊎_elim
      (λ l. (r.0, r.1, omega (arith, r.2), l ∙ r.3))
      (λ l. (b + suc m, omega arith, omega arith, l))
      (picks (join_from op f b m) (f (b + suc m)))

  pub over_place : ((x y : A) → (op x y ≡ x) ⊎ (op x y ≡ y)) → (b e : ℕ) → b < e → (i : ℕ) × (b ≤ i) × (i < e) × (over op f b e ≡ f i)
  over_place picks b e h = let r = join_from_place picks b (e - b - 1) in (r.0, r.1, omega (arith, r.2), r.3)

  -- An operation that gives a bound of the two: the join bounds every value.
  module _ (R : A → A → Type 0) (rule : (x : A) → R x x) (chain : (x y z : A) → R x y → R y z → R x z) (left : (x y : A) → R x (op x y)) (right : (x y : A) → R y (op x y)) where
    join_from_bound : (b m i : ℕ) → b ≤ i → i ≤ b + m → R (f i) (join_from op f b m)
    unfolding join_from
    join_from_bound b zero i g h = let z : b ≡ i = omega arith in rw z (rule (f i))
    join_from_bound b (suc m) i g h = go (dec_lt (b + m) i) (join_from_bound b m i g)
      where
        go : Dec (b + m < i) → (i ≤ b + m → R (f i) (join_from op f b m)) → R (f i) (op (join_from op f b m) (f (b + suc m)))
        go (yes l) ih = let z : i ≡ b + suc m = omega arith in rw z (right _ _)
        go (no n) ih = chain _ _ _ (ih (omega arith)) (left _ _)

    pub over_bound : (b e i : ℕ) → b ≤ i → i < e → R (f i) (over op f b e)
    over_bound b e i g h = join_from_bound b (e - b - 1) i g (omega arith)
