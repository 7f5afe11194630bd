-- Ranges joined one after the other: none yet, and one range more.
use mathlib.Core.Path.{◌≡◌, refl, sym, ap, ap₂, ◌∙◌}
use mathlib.Core.Bool.{Bool, true, false, cond, ◌||◌, or_assoc}
use mathlib.Core.List.{List}
use Prim.Native.Nat.{ℕ, zero, suc, ◌+◌, ◌-◌, ◌≤◌, ◌<◌}
use native.Mathlib.Omega.{arith}
use native.Mathlib.Decide.{dec_lt}
use lib.Dec.{eqb, ltb}
use lib.ListN.{length, set, take}
use lib.Seq.{get_or-set_same, get_or-set_other, get_or-take}
use borrow.Author.Tests.{eqb-true, eqb-false, lt-ltb, le-ltb}
use Rattle.std.proofs.lemmas.List.{length-take-le}
use Rattle.lists.specs.AnyLaws.{any_more, any_zero, any_ext}
use Rattle.paper.specs.Folds.{within}
use Rattle.paper.proofs.FoldsMeaning.{within_in, within_before, within-behind}
use Rattle.laws.specs.Ranges.{ranged, Ranges}
use Rattle.folds.specs.declared.RowRange.{RowRange}
use Rattle.blocks.specs.Held.{firsts, pasts, Blocks}
use Rattle.blocks.specs.Joined.{Joined, Joins, place_of}

-- Two ranges that touch are one.
within_join : (b e f i : ℕ) → b ≤ e → e ≤ f → within b e i || within e f i ≡ within b f i
within_join b e f i g h = go (dec_lt i b) (dec_lt i e) (dec_lt i f)
  where
    go : Dec (i < b) → Dec (i < e) → Dec (i < f) → within b e i || within e f i ≡ within b f i
    go (yes x) y z = rw (within_before b e i x, within_before e f i (omega arith), within_before b f i x)
    go (no x) (yes y) z = rw (within_in b e i (omega arith) y, within_in b f i (omega arith) (omega arith))
    go (no x) (no y) (yes z) =
        rw (within-behind b e i (omega arith), within_in e f i (omega arith) z, within_in b f i (omega arith) z)
    go (no x) (no y) (no z) =
        rw (within-behind b e i (omega arith), within-behind e f i (omega arith), within-behind b f i (omega arith))

-- ---- one place filled

-- Places below `at` hold what they held, and place `at` holds v.
pub record Filled (old new : ℕ → ℕ) (at v : ℕ) : Type 0 where
  pub below : (t : ℕ) → t < at → new t ≡ old t
  pub here : new at ≡ v

pub filled_firsts : (l : List RowRange) (at : ℕ) (v : RowRange) → at < length l → Filled (firsts l) (firsts (set l at v)) at v.first
filled_firsts l at v h =
    record { below = λ t k. ap (λ r. r.first) (get_or-set_other l at t v _ (λ e. omega arith)); here = ap (λ r. r.first) (get_or-set_same l at v _ h) }

pub filled_pasts : (l : List RowRange) (at : ℕ) (v : RowRange) → at < length l → Filled (pasts l) (pasts (set l at v)) at v.past
filled_pasts l at v h =
    record { below = λ t k. ap (λ r. r.past) (get_or-set_other l at t v _ (λ e. omega arith)); here = ap (λ r. r.past) (get_or-set_same l at v _ h) }

module _ {B E B' E' : ℕ → ℕ} {at b e : ℕ} (p : Filled B B' at b) (q : Filled E E' at e) where
  -- Behind the blocks below `at`, with a row between, a block from b up to e.
  filled_blocks :
      {n : ℕ} → Blocks B E at n → b < e → e ≤ n → ((t : ℕ) → t + 1 ≡ at → E t < b) → Blocks B' E' (at + 1) n
  filled_blocks {n} w h k g =
      record {
        some = λ j l. some j (dec_lt j at) l;
        gap = λ j l. gap j (dec_lt (j + 1) at) l;
        fits = λ j l. fits j (dec_lt j at) l;
      }
    where
      some : (j : ℕ) → Dec (j < at) → j < at + 1 → B' j < E' j
      some j (yes l) m = rw (p.below j l, q.below j l) (w.some j l)
      some j (no l) m = let z : j ≡ at = omega arith in rw (z, p.here, q.here) h

      gap : (j : ℕ) → Dec (j + 1 < at) → j + 1 < at + 1 → E' j < B' (j + 1)
      gap j (yes l) m = rw (p.below (j + 1) l, q.below j (omega arith)) (w.gap j l)
      gap j (no l) m = let z : j + 1 ≡ at = omega arith in rw (z, p.here, q.below j (omega arith)) (g j z)

      fits : (j : ℕ) → Dec (j < at) → j < at + 1 → E' j ≤ n
      fits j (yes l) m = rw (q.below j l) (w.fits j l)
      fits j (no l) m = let z : j ≡ at = omega arith in rw (z, q.here) k

  filled_ranged : (i : ℕ) → ranged B' E' (at + 1) i ≡ ranged B E at i || within b e i
  filled_ranged i =
      any_more (λ j. within (B' j) (E' j) i) at
      ∙ ap₂ (λ u v. u || v) (any_ext _ _ at (λ j l. ap₂ (λ u v. within u v i) (p.below j l) (q.below j l)))
      (ap₂ (λ u v. within u v i) p.here q.here)

-- ---- a list cut behind the blocks

joins_ext :
    {F G B E B' E' : ℕ → ℕ} {k m : ℕ} → ((j : ℕ) → j < m → B' j ≡ B j) → ((j : ℕ) → j < m → E' j ≡ E j) → Joins F G k B E m →
    Joins F G k B' E' m
joins_ext {m = m} x y w =
    record {
      few = w.few;
      joined = λ n r.
          let old = w.joined n r in
          let b = old.blocks in
          record {
            blocks =
                record {
                  some = λ j l. rw (x j l, y j l) (b.some j l);
                  gap = λ j l. rw (x (j + 1) l, y j (omega arith)) (b.gap j l);
                  fits = λ j l. rw (y j l) (b.fits j l);
                };
            same = λ i. old.same i ∙ sym (any_ext _ _ m (λ j l. ap₂ (λ u v. within u v i) (x j l) (y j l)));
            last = λ j l. let t = old.last j l in (t.0, y (m - 1) (omega (arith, t.0)) ∙ t.1);
          };
    }

module _ (l : List RowRange) (m : ℕ) (h : m ≤ length l) where
  pub joins_cut :
      {F G : ℕ → ℕ} {k : ℕ} → Joins F G k (firsts l) (pasts l) m →
      Joins F G k (firsts (take m l)) (pasts (take m l)) (length (take m l))
  joins_cut w =
      rw (length-take-le m l h)
      (joins_ext (λ j k. ap (λ r. r.first) (get_or-take m l j _ k)) (λ j k. ap (λ r. r.past) (get_or-take m l j _ k)) w)

  pub place_cut : (b : ℕ) → place_of (pasts (take m l)) (length (take m l)) b ≡ place_of (pasts l) m b
  place_cut b = rw (length-take-le m l h) (go m (omega arith))
    where
      go : (k : ℕ) → k ≤ m → place_of (pasts (take m l)) k b ≡ place_of (pasts l) k b
      go zero k = refl
      go (suc k) g = ap (λ r. cond (eqb r.past b) k (suc k)) (get_or-take m l k _ (omega arith))

-- ---- none yet

pub joins_none : (F G B E : ℕ → ℕ) → Joins F G 0 B E 0
joins_none F G B E =
    record {
      few = omega arith;
      joined = λ n w.
          record {
            blocks =
                record {
                  some = λ j l. absurd (omega arith);
                  gap = λ j l. absurd (omega arith);
                  fits = λ j l. absurd (omega arith);
                };
            same = λ i. any_zero (λ j. within (F j) (G j) i) ∙ sym (any_zero (λ j. within (B j) (E j) i));
            last = λ j l. absurd (omega arith);
          };
    }

-- ---- one range more

-- The ranges but for the last.
fewer : {F G : ℕ → ℕ} {j n : ℕ} → Ranges F G (j + 1) n → Ranges F G j n
fewer w =
    record {
      some = λ i l. w.some i (omega arith);
      rise = λ i l. w.rise i (omega arith);
      fits = λ i l. w.fits i (omega arith);
    }

-- The block at place `at` ends where range j does.
last_end : (G E : ℕ → ℕ) (j at : ℕ) → E at ≡ G j → (i : ℕ) → i + 1 ≡ j + 1 → (0 < at + 1) × (E (at + 1 - 1) ≡ G i)
last_end G E j at e i l =
    let v : i ≡ j = omega arith in
    let s : at + 1 - 1 ≡ at = omega arith in
    (omega arith, rw (v, s) e)

module _ {F G B E B' E' : ℕ → ℕ} {j m at : ℕ} (q : Filled E E' at (G j)) where
  -- The last block, u, ends where the range begins, and goes on to its end.
  goes_on : (u : ℕ) → u + 1 ≡ m → E u ≡ F j → at ≡ u → Filled B B' at (B at) → Joins F G j B E m → Joins F G (j + 1) B' E' (at + 1)
  goes_on u z e a p w =
      record {
        few = omega (arith, w.few);
        joined = λ n r.
            let old = w.joined n (fewer r) in
            let k = old.blocks in
            record {
              blocks =
                  filled_blocks p q
                  (record {
                    some = λ i l. k.some i (omega arith);
                    gap = λ i l. k.gap i (omega arith);
                    fits = λ i l. k.fits i (omega arith);
                  })
                  (rw a (omega (arith, k.some u (omega arith), r.some j (omega arith)))) (r.fits j (omega arith))
                  (λ t s. rw (← s) (k.gap t (omega arith)));
              same = λ i. same i old r;
              last = last_end G E' j at q.here;
            };
      }
    where
      same : {n : ℕ} (i : ℕ) → Joined F G j B E m n → Ranges F G (j + 1) n → ranged F G (j + 1) i ≡ ranged B' E' (at + 1) i
      same i old r =
          let apart : ranged B E m i ≡ ranged B E u i || within (B u) (E u) i = rw (← z) (any_more (λ t. within (B t) (E t) i) u) in
          let s = old.blocks.some u (omega arith) in
          let t = r.some j (omega arith) in
          let one : within (B u) (E u) i || within (F j) (G j) i ≡ within (B u) (G j) i =
          rw (← e) (within_join (B u) (E u) (G j) i (omega arith) (omega arith))
          in
          let new : ranged B E u i || within (B u) (G j) i ≡ ranged B' E' (at + 1) i = rw (← a) (sym (filled_ranged p q i)) in
          any_more (λ t. within (F t) (G t) i) j
          ∙ ap (λ v. v || within (F j) (G j) i) (old.same i ∙ apart)
          ∙ or_assoc (ranged B E u i) (within (B u) (E u) i) (within (F j) (G j) i)
          ∙ ap (λ v. ranged B E u i || v) one
          ∙ new

  -- It begins a block of its own.
  begins_new :
      ((t : ℕ) → t + 1 ≡ m → eqb (E t) (F j) ≡ false) → at ≡ m → Filled B B' at (F j) → Joins F G j B E m →
      Joins F G (j + 1) B' E' (at + 1)
  begins_new apart a p w =
      record {
        few = omega (arith, w.few);
        joined = λ n r.
            let old = w.joined n (fewer r) in
            record {
              blocks =
                  filled_blocks p q (rw a old.blocks) (r.some j (omega arith)) (r.fits j (omega arith))
                  (λ t s. before t (s ∙ a) old r);
              same = λ i.
                  any_more (λ t. within (F t) (G t) i) j
                  ∙ ap (λ v. v || within (F j) (G j) i) (old.same i)
                  ∙ rw (← a) (sym (filled_ranged p q i));
              last = last_end G E' j at q.here;
            };
      }
    where
      before : {n : ℕ} (t : ℕ) → t + 1 ≡ m → Joined F G j B E m n → Ranges F G (j + 1) n → E t < F j
      before t s old r =
          let c : j - 1 + 1 ≡ j = omega (arith, w.few) in
          let d : m - 1 ≡ t = omega arith in
          let f : E t ≡ G (j - 1) = rw d at (old.last (j - 1) c).1 in
          let g : G (j - 1) ≤ F j = rw c at (r.rise (j - 1) (omega arith)) in
          omega (arith, eqb-false (E t) (F j) (apart t s))

-- The turn of the loop.
module _ {F G B E B' E' : ℕ → ℕ} {j m at : ℕ} (a : at ≡ place_of E m (F j)) (p : Filled B B' at (cond (ltb at m) (B at) (F j))) (q : Filled E E' at (G j)) where
  pub joins_more : Joins F G j B E m → Joins F G (j + 1) B' E' (at + 1)
  joins_more w = go m refl
    where
      old : at < m → Filled B B' at (B at)
      old h = rw (lt-ltb at m h) at p

      new : at ≡ m → Filled B B' at (F j)
      new h = rw (le-ltb at m (omega arith)) at p

      go : (v : ℕ) → m ≡ v → Joins F G (j + 1) B' E' (at + 1)
      go zero z = let h : at ≡ m = a ∙ rw z in begins_new q (λ t s. absurd (omega arith)) h (new h) w
      go (suc u) z = turn (eqb (E u) (F j)) refl
        where
          turn : (v : Bool) → eqb (E u) (F j) ≡ v → Joins F G (j + 1) B' E' (at + 1)
          turn true e =
              let h : at ≡ u = a ∙ rw (z, e) in
              goes_on q u (omega arith) (eqb-true (E u) (F j) e) h (old (omega arith)) w
          turn false e =
              let h : at ≡ m = a ∙ rw (z, e) in
              begins_new q (λ t s. let d : t ≡ u = omega arith in rw (d, e)) h (new h) w
