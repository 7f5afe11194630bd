-- One step down the remaining folds on the way to the p-th set that holds g: into the part with the first fold, or past it.
use mathlib.Core.Path.{◌≡◌}
use mathlib.Core.Logic.{◌≢◌}
use Prim.Native.Nat.{ℕ, zero, suc, ◌+◌, ◌-◌, ◌≤◌, ◌<◌, ◌^◌}
use native.Mathlib.Nat.{not-suc-le-zero}
use native.Mathlib.Omega.{arith}
use native.Mathlib.Numerals.{add-one}
use Rattle.paper.specs.Sets.{choose, listing}
use Rattle.paper.specs.Paths.{paths}
use Rattle.paper.proofs.Listing.{hold, hold_pascal, hold-choose, listing-length}
use Rattle.paper.proofs.PathsMeaning.{Pth, pth_here, pth_first, pth_second}
use Rattle.sets.specs.Work.{Ahead}
use Rattle.sets.proofs.TableLaws.{choose-fits}

-- No set of no folds holds one.
pub hold_zero : (n k : ℕ) → k ≡ 0 → hold n k ≡ 0
unfolding hold
hold_zero n k e = rw e

hold_some : (n k p : ℕ) → p < hold n k → (0 < n) × (0 < k)
unfolding hold
hold_some n zero p h = absurd (not-suc-le-zero h)
hold_some zero (suc k) p h = absurd (not-suc-le-zero h)
hold_some (suc n) (suc k) p h = (omega arith, omega arith)

pub ahead_some : {f n k p g : ℕ} → Ahead f n k p g → (0 < n) × (0 < k)
ahead_some {n} {k} {p} w = hold_some n k p w.some

module _ {f n k p g : ℕ} (w : Ahead f n k p g) (m j : ℕ) (em : n ≡ suc m) (ej : k ≡ suc j) where
  fewer : p < choose m j
  unfolding hold
  fewer = rw (em, ej) at w.some

  pub ahead_here : f ≡ g → Pth (listing f n k) g p p
  ahead_here e = rw (← e, em, ej) (pth_here f m j p fewer)

  module _ (ne : f ≢ g) where
    pub ahead_first : (c : ℕ) → c ≡ hold m j → p < c → Ahead (f + 1) m j p g
    ahead_first c e lt = record { small = omega arith; low = omega arith; high = omega arith; some = rw e at lt }

    pub ahead_firsts : (r : ℕ) → Pth (listing (f + 1) m j) g p r → Pth (listing f n k) g p r
    ahead_firsts r q = rw (em, ej) (pth_first f m j (omega arith) (rw (add-one f) at q))

    pub ahead_second : (c : ℕ) → c ≡ hold m j → c ≤ p → Ahead (f + 1) m k (p - c) g
    ahead_second c e le = record {
      small = omega arith;
      low = omega arith;
      high = omega arith;
      some = rw ej (omega (arith, hold_pascal m j (omega arith), fewer));
    }

    pub ahead_seconds : (c b r : ℕ) → c ≡ hold m j → c ≤ p → b ≡ choose m j
        → Pth (listing (f + 1) m k) g (p - c) r → Pth (listing f n k) g p (b + r)
    ahead_seconds c b r ec le eb q =
        let s : hold m j + (p - c) ≡ p = omega arith in
        rw (em, ej, eb) (rw s at (pth_second f m j (omega arith) (omega arith) (rw (add-one f, ej) at q)))

    -- The number that comes back lies in the second part.
    pub ahead_fits : (b q r : ℕ) → b ≡ choose m j → Pth (listing (f + 1) m k) g q r → b + r < 2 ^ 64
    unfolding choose
    ahead_fits b q r eb h =
        omega (arith, rw (listing-length (f + 1) m k, ej) at h.within, choose-fits (suc m) (suc j) (omega arith))

pub ahead_start : (n k p g : ℕ) → n ≤ 64 → 0 < k → p < paths n k → g < n → Ahead 0 n k p g
ahead_start n k p g small some lt h = record {
  small = omega arith;
  low = omega arith;
  high = omega arith;
  some = rw (hold-choose n k (omega arith) some) lt;
}
