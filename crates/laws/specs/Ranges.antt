-- Test rows as code holds them: a few ranges of rows, ascending, not empty, which may touch. Range j has the rows from F j
-- up to G j. Ranges that touch make one block (01), so a block begins at a range that does not touch the one before it, and
-- ends where the last range ends that it runs into. All of that is in `any_blocks` of proofs/Heads, `past_on` and `past_ends`.
use Rattle.std.specs.Prelude.{◌≡◌, Bool, true, false, ◌&&◌, not, ℕ, zero, suc, ◌+◌, ◌-◌, ◌≤◌, ◌<◌, eqb}
use Rattle.std.proofs.Common.{ap₂, add-one, arith, eqb-true}
use Rattle.std.proofs.Math.Path.{fun_ext}
use Rattle.std.proofs.Math.Decide.{dec_lt, le_ind}
use Rattle.std.proofs.lemmas.Bool.{eqb-false}
use Rattle.lists.specs.Base.{any, any_from}
use Rattle.lists.specs.AnyLaws.{never, both, both_ways, any_here, any_some, any_none, any_ext, any_from-here, any_from_some}
use Rattle.lists.specs.FirstLaws.{first_from_ge}
use Rattle.paper.specs.Folds.{Rows, within}
use Rattle.paper.specs.Blocks.{begins, past}
use Rattle.paper.proofs.FoldsMeaning.{within_in, within_is, within_before, within-behind}
use Rattle.paper.proofs.BlocksMeaning.{begins_test, begins-after, past_is, past_le, past_test, past_stops}

-- The rows of k ranges.
abbrev pub ranged : (ℕ → ℕ) → (ℕ → ℕ) → ℕ → Rows
ranged F G k i = any (λ j. within (F j) (G j) i) k

-- What is known of k ranges of n rows: none is empty, each begins where the one before ends or later, all lie in the rows.
pub record Ranges (F G : ℕ → ℕ) (k n : ℕ) : Type 0 where
  pub some : (j : ℕ) → j < k → F j < G j
  pub rise : (j : ℕ) → j + 1 < k → G j ≤ F (j + 1)
  pub fits : (j : ℕ) → j < k → G j ≤ n

-- Range j ends where the next one begins.
abbrev pub touches : (ℕ → ℕ) → (ℕ → ℕ) → ℕ → Bool
touches F G j = eqb (G j) (F (j + 1))

-- Range j begins a block: the one before it does not touch it.
abbrev pub heads : (ℕ → ℕ) → (ℕ → ℕ) → ℕ → Bool
heads F G zero = true
heads F G (suc j) = not (touches F G j)

-- The row past the block that goes through range j.
abbrev pub past_range : ℕ → (ℕ → ℕ) → (ℕ → ℕ) → ℕ → ℕ → ℕ
past_range n F G k j = past n (ranged F G k) (F j)

-- Only the first k places of F and G matter, as of two arrays of which k places are filled.
pub ranged_ext :
    (F G f g : ℕ → ℕ) (k : ℕ) → ((j : ℕ) → j < k → F j ≡ f j) → ((j : ℕ) → j < k → G j ≡ g j) →
    ranged F G k ≡ ranged f g k
ranged_ext F G f g k x y = fun_ext (λ i. any_ext _ _ k (λ j l. ap₂ (λ b e. within b e i) (x j l) (y j l)))

pub ranges_ext :
    {F G f g : ℕ → ℕ} {k n : ℕ} → Ranges f g k n → ((j : ℕ) → j < k → F j ≡ f j) → ((j : ℕ) → j < k → G j ≡ g j) →
    Ranges F G k n
ranges_ext w x y =
    record {
      some = λ j l. rw (x j l, y j l) (w.some j l);
      rise = λ j l. rw (x (j + 1) l, y j (omega arith)) (w.rise j l);
      fits = λ j l. rw (y j l) (w.fits j l);
    }

module _ {F G : ℕ → ℕ} {k n : ℕ} (w : Ranges F G k n) where
  -- A row of a range is tested, and a row that is tested lies in one.
  pub ranged_in : (j i : ℕ) → j < k → F j ≤ i → i < G j → ranged F G k i ≡ true
  ranged_in j i h a b = any_here (λ m. within (F m) (G m) i) k j h (within_in (F j) (G j) i a b)

  pub ranged_some : (i : ℕ) → ranged F G k i ≡ true → (j : ℕ) × (j < k) × (F j ≤ i) × (i < G j)
  ranged_some i h =
      let r = any_some (λ m. within (F m) (G m) i) k h in
      let s = within_is (F r.0) (G r.0) i r.2 in
      (r.0, r.1, s.0, s.1)

  -- Ranges are in order.
  pub ranges_order : (i j : ℕ) → i < j → j < k → G i ≤ F j
  ranges_order i j h =
      le_ind (λ m. m < k → G i ≤ F m) (λ l. rw add-one at (w.rise i (rw add-one l)))
      (λ m g ih l. omega (arith, ih (omega arith), w.some m (omega arith), rw add-one at (w.rise m (rw add-one l))))
      j h

  pub begins-le : (i j : ℕ) → i ≤ j → j < k → F i ≤ F j
  begins-le i j g h = go (dec_lt i j)
    where
      go : Dec (i < j) → F i ≤ F j
      go (yes l) = omega (arith, ranges_order i j l h, w.some i (omega arith))
      go (no l) = let z : i ≡ j = omega arith in rw z (omega arith)

  pub ends_le : (i j : ℕ) → i ≤ j → j < k → G i ≤ G j
  ends_le i j g h = go (dec_lt i j)
    where
      go : Dec (i < j) → G i ≤ G j
      go (yes l) = omega (arith, ranges_order i j l h, w.some j h)
      go (no l) = let z : i ≡ j = omega arith in rw z (omega arith)

  pub gap : (j : ℕ) → j + 1 < k → touches F G j ≡ false → G j < F (j + 1)
  gap j h e = omega (arith, w.rise j h, eqb-false (G j) (F (j + 1)) e)

  -- A row between two ranges is not tested: it lies behind the first j and before all others.
  pub ranged_out :
      (j i : ℕ) → ((m : ℕ) → m < j → m < k → G m ≤ i) → ((m : ℕ) → j ≤ m → m < k → i < F m) → ranged F G k i ≡ false
  ranged_out j i behind before = any_none _ k (λ m l. go m l (dec_lt m j))
    where
      go : (m : ℕ) → m < k → Dec (m < j) → within (F m) (G m) i ≡ false
      go m l (yes x) = within-behind (F m) (G m) i (behind m x l)
      go m l (no x) = within_before (F m) (G m) i (before m (omega arith) l)

  -- ---- where a block ends

  -- Where the next range touches, the block goes on through it; else it ends with range j.
  pub past_on : (j : ℕ) → j + 1 < k → touches F G j ≡ true → past_range n F G k j ≡ past_range n F G k (j + 1)
  past_on j h e =
      past_is n (ranged F G k) (F j) (past_range n F G k (j + 1))
      (omega (arith, ge, w.rise j h, w.some j (omega arith))) (past_le n (ranged F G k) (F (j + 1)) le) (λ i a b. go i a b (dec_lt i (F (j + 1))))
      (past_stops n (ranged F G k) (F (j + 1)) le)
    where
      le : F (j + 1) ≤ n
      le = omega (arith, w.some (j + 1) h, w.fits (j + 1) h)

      ge : F (j + 1) ≤ past_range n F G k (j + 1)
      ge = first_from_ge (λ i. not (ranged F G k i)) (F (j + 1)) (n - F (j + 1))

      go : (i : ℕ) → F j ≤ i → i < past_range n F G k (j + 1) → Dec (i < F (j + 1)) → ranged F G k i ≡ true
      go i a b (yes l) = ranged_in j i (omega arith) a (omega (arith, eqb-true (G j) (F (j + 1)) e))
      go i a b (no l) = past_test n (ranged F G k) (F (j + 1)) i (omega arith) b

  pub past_ends : (j : ℕ) → j < k → (j + 1 < k → touches F G j ≡ false) → past_range n F G k j ≡ G j
  past_ends j h apart =
      past_is n (ranged F G k) (F j) (G j) (omega (arith, w.some j h)) (w.fits j h) (λ i. ranged_in j i h)
      (λ l.
      ranged_out (j + 1) (G j) (λ m x y. ends_le m j (omega arith) h)
      (λ m x y.
      let z : j + 1 < k = omega arith in
      omega (arith, gap j z (apart z), begins-le (j + 1) m x y)))

  -- ---- where a block begins

  -- Only at the first row of a range. At which of them: proofs/Heads.
  pub begins_range : (b : ℕ) → begins (ranged F G k) b ≡ true → (j : ℕ) × (j < k) × (F j ≡ b)
  begins_range b h =
      let r = ranged_some b (begins_test n (ranged F G k) b h) in
      (r.0, r.1, at b h r.0 r.1 r.2 r.3 (dec_lt (F r.0) b))
    where
      at : (b : ℕ) → begins (ranged F G k) b ≡ true → (j : ℕ) → j < k → F j ≤ b → b < G j → Dec (F j < b) → F j ≡ b
      at b h j l x y (no g) = omega arith
      at zero h j l x y (yes g) = absurd (omega arith)
      at (suc b) h j l x y (yes g) =
          never (ranged_in j b l (omega arith) (omega arith)) (begins-after n (ranged F G k) b h)

  -- "Some test row" is "some row of some range".
  pub any-ranged : (P : ℕ → Bool) → any (λ i. ranged F G k i && P i) n ≡ any (λ j. any_from P (F j) (G j)) k
  any-ranged P = both_ways to from
    where
      to : any (λ i. ranged F G k i && P i) n ≡ true → any (λ j. any_from P (F j) (G j)) k ≡ true
      to h =
          let m = any_some (λ i. ranged F G k i && P i) n h in
          let e = both {a = ranged F G k m.0} m.2 in
          let r = ranged_some m.0 e.0 in
          any_here (λ j. any_from P (F j) (G j)) k r.0 r.1 (any_from-here P (F r.0) (G r.0) m.0 r.2 r.3 e.1)

      from : any (λ j. any_from P (F j) (G j)) k ≡ true → any (λ i. ranged F G k i && P i) n ≡ true
      from h =
          let m = any_some (λ j. any_from P (F j) (G j)) k h in
          let r = any_from_some P (F m.0) (G m.0) m.2 in
          any_here (λ i. ranged F G k i && P i) n r.0 (omega (arith, w.fits m.0 m.1))
          (rw (ranged_in m.0 r.0 m.1 r.1 r.2, r.3))
