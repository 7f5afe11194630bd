-- What the layouts mean (01, "Purge, embargo, marks"): which rows a split tests, which can train, and which take no part.
use mathlib.Core.Path.{◌≡◌, refl}
use mathlib.Core.Bool.{Bool, true, false, cond}
use mathlib.Core.List.{List}
use Prim.Native.Nat.{ℕ, ◌+◌, ◌-◌, ◌*◌, ◌≤◌, ◌<◌, min}
use native.Mathlib.Omega.{arith}
use borrow.Author.Tests.{le-leb, lt-leb}
use Rattle.lists.specs.Base.{count}
use Rattle.paper.specs.Spans.{Table}
use Rattle.paper.specs.Folds.{within, fold, folds}
use Rattle.paper.specs.Embargo.{embargoed}
use Rattle.paper.specs.Marks.{Rule, purged, mark_of, mark}
use Rattle.paper.specs.Layouts.{forward, kfold, cpcv, walk_forward, rolling}
use Rattle.paper.specs.Sets.{entry}
use Rattle.paper.proofs.FoldsMeaning.{within_in, within_is, within_before, within-behind, count-within_from}
use Rattle.paper.proofs.EmbargoMeaning.{embargoed_none, embargoed-behind}

-- ---- which rows are tested

pub kfold_tests : (bs : List ℕ) (s w : ℕ) → (kfold bs s w).test ≡ fold bs s
kfold_tests bs s w = refl

pub cpcv_tests : (bs : List ℕ) (N k s w : ℕ) → (cpcv bs N k s w).test ≡ folds bs (entry N k s)
cpcv_tests bs N k s w = refl

-- All other rows take part, and the embargo has the width given.
pub kfold_rest : (bs : List ℕ) (s w i : ℕ) → ((kfold bs s w).unused i ≡ false) × ((kfold bs s w).width ≡ w)
kfold_rest bs s w i = (refl, refl)

pub cpcv_rest : (bs : List ℕ) (N k s w i : ℕ) → ((cpcv bs N k s w).unused i ≡ false) × ((cpcv bs N k s w).width ≡ w)
cpcv_rest bs N k s w i = (refl, refl)

pub walk_forward_tests : (bs : List ℕ) (m s : ℕ) → (walk_forward bs m s).test ≡ fold bs (m + s)
walk_forward_tests bs m s = refl

-- The first row of a rolling split is tested, and size rows in all, or as many as there are.
pub rolling_first : (a size step s : ℕ) → 1 ≤ size → (rolling a size step s).test (a + s * step) ≡ true
rolling_first a size step s h = within_in (a + s * step) (a + s * step + size) (a + s * step) (omega arith) (omega arith)

pub rolling_size : (a size step s n : ℕ) → count (rolling a size step s).test n ≡ min size (n - (a + s * step))
rolling_size a size step s n = count-within_from (a + s * step) size n

-- ---- walk-forward and rolling: the three parts of the rows

module _ (r : Rule) (T : Table) (b e : ℕ) where
  -- A row before the tested ones trains, or is purged; it is never embargoed.
  pub forward_before : (i : ℕ) → i < b → b ≤ e → mark_of r T (forward b e) i ≡ cond (purged r T (within b e) i) 2 0
  unfolding mark_of
  forward_before i h k =
      rw (within_before b e i h, lt-leb e i (omega arith), embargoed_none T (within b e) i) (pick (purged r T (within b e) i))
    where
      pick : (p : Bool) → mark false false p false ≡ cond p 2 0
      pick true = refl
      pick false = refl

  pub forward_tests : (i : ℕ) → b ≤ i → i < e → mark_of r T (forward b e) i ≡ 1
  unfolding mark_of
  forward_tests i h k = rw (within_in b e i h k)

  -- A row behind them takes no part.
  pub forward-behind : (i : ℕ) → e ≤ i → mark_of r T (forward b e) i ≡ 5
  unfolding mark_of
  forward-behind i h = rw (within-behind b e i h, le-leb e i h)

-- That no row is embargoed here loses nothing: of any width, the embargo would reach no row before the tested ones.
pub forward_embargo : (T : Table) (b e width i : ℕ) → i < b → embargoed T (within b e) width i ≡ false
forward_embargo T b e width i h = go (embargoed T (within b e) width i) refl
  where
    go : (v : Bool) → embargoed T (within b e) width i ≡ v → v ≡ false
    go true k =
        let r = embargoed-behind T (within b e) width i k in
        absurd (omega (arith, r.1, within_is b e r.0 r.2))
    go false k = refl
