-- Which ranges begin a block: those that do not touch the one before them (Ranges).
use Rattle.std.specs.Prelude.{◌≡◌, refl, Bool, true, false, ◌&&◌, not, ℕ, zero, suc, ◌+◌, ◌-◌, ◌≤◌, ◌<◌, eqb}
use Rattle.std.proofs.Common.{add-one, arith, eqb-true}
use Rattle.std.proofs.lemmas.Bool.{not-true}
use Rattle.lists.specs.Base.{any}
use Rattle.lists.specs.AnyLaws.{never, both, both_ways, any_here, any_some}
use Rattle.paper.specs.Blocks.{begins}
use Rattle.paper.proofs.BlocksMeaning.{begins-after, begins_is}
use Rattle.laws.specs.Ranges.{ranged, Ranges, touches, heads, ranged_in, begins-le, ends_le, gap, ranged_out, begins_range}

-- Whether a range begins a block, as code asks it: the first does (`refl`), and each other one by this.
pub heads_next : (F G : ℕ → ℕ) (j : ℕ) → 0 < j → heads F G j ≡ not (eqb (G (j - 1)) (F j))
heads_next F G zero h = absurd (omega arith)
heads_next F G (suc j) h = let z : suc j - 1 ≡ j = omega arith in rw (z, add-one)

module _ {F G : ℕ → ℕ} {k n : ℕ} (w : Ranges F G k n) where
  -- At the first row of a range that does not touch the one before it ..
  pub begins_head : (j : ℕ) → j < k → begins (ranged F G k) (F j) ≡ heads F G j
  begins_head j h = both_ways (head j h) (begin j h)
    where
      head : (j : ℕ) → j < k → begins (ranged F G k) (F j) ≡ true → heads F G j ≡ true
      head zero h b = refl
      head (suc j) h b = go (touches F G j) refl
        where
          go : (v : Bool) → touches F G j ≡ v → not (touches F G j) ≡ true
          go false e = rw e
          go true e =
              let z : suc (G j - 1) ≡ F (suc j) = omega (arith, w.some j (omega arith), rw add-one at (eqb-true (G j) (F (j + 1)) e)) in
              never (ranged_in w j (G j - 1) (omega arith) (omega (arith, w.some j (omega arith))) (omega (arith, w.some j (omega arith))))
              (begins-after n (ranged F G k) (G j - 1) (rw z b))

      begin : (j : ℕ) → j < k → heads F G j ≡ true → begins (ranged F G k) (F j) ≡ true
      begin j h e =
          begins_is n (ranged F G k) (F j) (ranged_in w j (F j) h (omega arith) (w.some j h))
          (λ c z. ranged_out w j c (λ m x y. before j h e m x c z) (λ m x y. omega (arith, begins-le w j m x y)))
        where
          before : (j : ℕ) → j < k → heads F G j ≡ true → (m : ℕ) → m < j → (c : ℕ) → suc c ≡ F j → G m ≤ c
          before zero h e m x c z = absurd (omega arith)
          before (suc j) h e m x c z =
              omega (arith, ends_le w m j (omega arith) (omega arith), rw add-one at (gap w j (rw add-one h) (not-true (touches F G j) e)))

  -- So "some block" is "some range that begins one", whatever is asked of it.
  pub any_blocks : (P : ℕ → Bool) → any (λ b. begins (ranged F G k) b && P b) n ≡ any (λ j. heads F G j && P (F j)) k
  any_blocks P = both_ways to from
    where
      to : any (λ b. begins (ranged F G k) b && P b) n ≡ true → any (λ j. heads F G j && P (F j)) k ≡ true
      to h =
          let m = any_some (λ b. begins (ranged F G k) b && P b) n h in
          let e = both {a = begins (ranged F G k) m.0} m.2 in
          let r = begins_range w m.0 e.0 in
          any_here (λ j. heads F G j && P (F j)) k r.0 r.1
          (rw (← begins_head r.0 r.1, r.2, e.0, e.1))

      from : any (λ j. heads F G j && P (F j)) k ≡ true → any (λ b. begins (ranged F G k) b && P b) n ≡ true
      from h =
          let m = any_some (λ j. heads F G j && P (F j)) k h in
          let e = both {a = heads F G m.0} m.2 in
          any_here (λ b. begins (ranged F G k) b && P b) n (F m.0) (omega (arith, w.some m.0 m.1, w.fits m.0 m.1))
          (rw (begins_head m.0 m.1, e.0, e.1))
