-- Laws of `first_from`: where it lies, that it passes, that none before it does, and the turns of a search.
use Rattle.std.specs.Prelude.{◌≡◌, Bool}
use Rattle.std.proofs.Math.Path.{refl}
use Rattle.std.proofs.Math.Bool.{true, false}
use Prim.Native.Nat.{ℕ, zero, suc, ◌+◌, ◌-◌, ◌≤◌, ◌<◌}
use Rattle.std.proofs.Common.{add-one}
use native.Mathlib.Omega.{arith}
use Rattle.std.proofs.Math.Decide.{dec_lt}
use Rattle.lists.specs.Base.{first_from, first}
use Rattle.lists.specs.AnyLaws.{never}

module _ (p : ℕ → Bool) where
  -- It lies from b on, and not past b + m.
  pub first_from_ge : (b m : ℕ) → b ≤ first_from p b m
  unfolding first_from
  first_from_ge b zero = omega arith
  first_from_ge b (suc m) = go (p b) refl (first_from_ge (suc b) m)
    where
      go : (t : Bool) → p b ≡ t → suc b ≤ first_from p (suc b) m → b ≤ first_from p b (suc m)
      go true e ih = rw e (omega arith)
      go false e ih = rw e (omega arith)

  pub first_from-le : (b m : ℕ) → first_from p b m ≤ b + m
  unfolding first_from
  first_from-le b zero = omega arith
  first_from-le b (suc m) = go (p b) refl (first_from-le (suc b) m)
    where
      go : (t : Bool) → p b ≡ t → first_from p (suc b) m ≤ suc b + m → first_from p b (suc m) ≤ b + suc m
      go true e ih = rw e (omega arith)
      go false e ih = rw e (omega arith)

  -- What it finds passes.
  pub first_from_is : (b m : ℕ) → first_from p b m < b + m → p (first_from p b m) ≡ true
  unfolding first_from
  first_from_is b zero h = absurd (omega arith)
  first_from_is b (suc m) h = go (p b) refl (first_from_is (suc b) m)
    where
      go : (t : Bool) → p b ≡ t → (first_from p (suc b) m < suc b + m → p (first_from p (suc b) m) ≡ true) → p (first_from p b (suc m)) ≡ true
      go true e ih = rw (e, e)
      go false e ih = rw e (ih (let k : first_from p (suc b) m < b + suc m = rw e at h in omega arith))

  -- Nothing before it does.
  pub first_from_before : (b m i : ℕ) → b ≤ i → i < first_from p b m → p i ≡ false
  unfolding first_from
  first_from_before b zero i g h = absurd (omega arith)
  first_from_before b (suc m) i g h = go (p b) refl (first_from_before (suc b) m i)
    where
      go : (t : Bool) → p b ≡ t → (suc b ≤ i → i < first_from p (suc b) m → p i ≡ false) → p i ≡ false
      go true e ih = absurd (let k : i < b = rw e at h in omega arith)
      go false e ih =
          let k : i < first_from p (suc b) m = rw e at h in
          at (dec_lt b i) k
        where
          at : Dec (b < i) → i < first_from p (suc b) m → p i ≡ false
          at (yes l) k = ih l k
          at (no n) k = let z : i ≡ b = omega arith in rw z e

  -- What settles it: a place that passes, with none before it that does.
  pub first_from_at : (b m i : ℕ) → b ≤ i → i < b + m → p i ≡ true → ((j : ℕ) → b ≤ j → j < i → p j ≡ false) → first_from p b m ≡ i
  first_from_at b m i g h e none = go (dec_lt (first_from p b m) i) (dec_lt i (first_from p b m))
    where
      go : Dec (first_from p b m < i) → Dec (i < first_from p b m) → first_from p b m ≡ i
      go (yes l) d =
          never (first_from_is b m (omega arith)) (none (first_from p b m) (first_from_ge b m) l)
      go (no n) (yes l) = never e (first_from_before b m i g l)
      go (no n) (no k) = omega arith

  -- None passes: the end.
  pub first_from_none : (b m : ℕ) → ((j : ℕ) → b ≤ j → j < b + m → p j ≡ false) → first_from p b m ≡ b + m
  first_from_none b m none = go (dec_lt (first_from p b m) (b + m))
    where
      go : Dec (first_from p b m < b + m) → first_from p b m ≡ b + m
      go (yes l) = never (first_from_is b m l) (none (first_from p b m) (first_from_ge b m) l)
      go (no n) = omega (arith, first_from-le b m)

  -- The same of `first`, which begins at 0.
  pub first_le : (n : ℕ) → first p n ≤ n
  first_le n = omega (arith, first_from-le 0 n)

  pub first_is : (n : ℕ) → first p n < n → p (first p n) ≡ true
  first_is n h = first_from_is 0 n (omega arith)

  pub first_before : (n i : ℕ) → i < first p n → p i ≡ false
  first_before n i h = first_from_before 0 n i (omega arith) h

  -- The turns of a search of n numbers that stands at i.
  pub first_skip : (n i : ℕ) → i < n → p i ≡ false → first_from p i (n - i) ≡ first_from p (i + 1) (n - (i + 1))
  unfolding first_from
  first_skip n i h e =
      let z : n - i ≡ suc (n - (i + 1)) = omega arith in
      rw (z, e, add-one)

  pub first_hit : (n i : ℕ) → i < n → p i ≡ true → first_from p i (n - i) ≡ i
  unfolding first_from
  first_hit n i h e = let z : n - i ≡ suc (n - (i + 1)) = omega arith in rw (z, e)

  pub first_end : (n i : ℕ) → n ≤ i → first_from p i (n - i) ≡ i
  unfolding first_from
  first_end n i h = let z : n - i ≡ 0 = omega arith in rw z

-- Two tests that agree on the numbers looked at find the same.
pub first_from_ext :
    (p q : ℕ → Bool) (b m : ℕ) → ((i : ℕ) → b ≤ i → i < b + m → p i ≡ q i) → first_from p b m ≡ first_from q b m
unfolding first_from
first_from_ext p q b zero h = refl
first_from_ext p q b (suc m) h =
    rw (h b (omega arith) (omega arith), first_from_ext p q (suc b) m (λ i x y. h i (omega arith) (omega arith)))
