-- The test rows of each layout as ranges: an ascending list of folds over borders, or one range.
use Rattle.std.specs.Prelude.{◌≡◌, refl, true, false, ◌||◌, List, [], ◌∷◌, ℕ, zero, suc, ◌+◌, ◌≤◌, ◌<◌, leb, length, get_or}
use Rattle.std.proofs.Common.{sym, ap, ◌∙◌, add-one, arith}
use Rattle.std.proofs.Math.Path.{fun_ext}
use Rattle.lists.specs.Base.{any}
use Rattle.lists.specs.AnyLaws.{any_first}
use Rattle.paper.specs.Folds.{within, border, fold, folds}
use Rattle.paper.specs.Layouts.{cross, forward}
use Rattle.paper.specs.Sets.{choose, entry, is_split}
use Rattle.paper.proofs.FoldsMeaning.{Borders, border-le}
use Rattle.paper.proofs.ListingMeaning.{Rises, is_split_rises, entry-is_split}
use Rattle.laws.specs.Ranges.{ranged, Ranges}
use Rattle.laws.specs.Worker.{ranged_split}

-- ---- a list of folds

-- Where the j-th fold of the list begins and ends.
abbrev pub fold_from : List ℕ → List ℕ → ℕ → ℕ
fold_from bs fs j = border bs (get_or fs j 0)

abbrev pub fold_to : List ℕ → List ℕ → ℕ → ℕ
fold_to bs fs j = border bs (get_or fs j 0 + 1)

-- The rows of a list of folds are those of its ranges.
folds-any : (bs fs : List ℕ) (i : ℕ) → folds bs fs i ≡ ranged (fold_from bs fs) (fold_to bs fs) (length fs) i
unfolding folds any
folds-any bs [] i = refl
folds-any bs (f ∷ fs) i =
    ap (λ x. fold bs f i || x) (folds-any bs fs i)
    ∙ sym (any_first (λ j. within (fold_from bs (f ∷ fs) j) (fold_to bs (f ∷ fs) j) i) (length fs))

pub folds-ranged : (bs fs : List ℕ) → folds bs fs ≡ ranged (fold_from bs fs) (fold_to bs fs) (length fs)
folds-ranged bs fs = fun_ext (folds-any bs fs)

-- Each fold of an ascending list is below N, and below the next.
rises_below : (f e : ℕ) (s : List ℕ) → Rises f e s → (j : ℕ) → j < length s → get_or s j 0 < e
rises_below f e [] r j h = absurd (omega arith)
rises_below f e (a ∷ s) r zero h = r.1
rises_below f e (a ∷ s) r (suc j) h = rises_below (suc a) e s r.2 j (omega arith)

rises_next : (f e : ℕ) (s : List ℕ) → Rises f e s → (j : ℕ) → suc j < length s → get_or s j 0 < get_or s (suc j) 0
rises_next f e [] r j h = absurd (omega arith)
rises_next f e (a ∷ []) r j h = absurd (omega arith)
rises_next f e (a ∷ (b ∷ s)) r zero h = r.2.0
rises_next f e (a ∷ (b ∷ s)) r (suc j) h = rises_next (suc a) e (b ∷ s) r.2 j (omega arith)

-- So each fold of a split is a fold.
pub is_split_below : (N k : ℕ) (fs : List ℕ) → is_split N k fs ≡ true → (j : ℕ) → j < k → get_or fs j 0 < N
is_split_below N k fs h j l =
    let s = is_split_rises N k fs h in
    rises_below 0 N fs s.0 j (omega (arith, s.1))

-- Over borders of n rows, an ascending list of folds below N gives ranges of these rows.
pub folds_ranges :
    {bs : List ℕ} {N n : ℕ} → Borders bs N n → (fs : List ℕ) (k : ℕ) → is_split N k fs ≡ true →
    Ranges (fold_from bs fs) (fold_to bs fs) k n
folds_ranges {bs} {N} {n} w fs k h =
    record {
      some = λ j l. w.rise (get_or fs j 0) (below j l);
      rise = λ j l. border-le w (get_or fs j 0 + 1) (get_or fs (j + 1) 0) (omega (arith, next j l)) (omega (arith, below (j + 1) l));
      fits = λ j l. rw w.end at (border-le w (get_or fs j 0 + 1) N (omega (arith, below j l)) (omega arith));
    }
  where
    s : Rises 0 N fs × (length fs ≡ k)
    s = is_split_rises N k fs h

    next : (j : ℕ) → j + 1 < k → get_or fs j 0 < get_or fs (j + 1) 0
    next j l = rw add-one (rises_next 0 N fs s.0 j (omega (arith, s.1)))

    below : (j : ℕ) → j < k → get_or fs j 0 < N
    below = is_split_below N k fs h

-- ---- one range

-- The rows b up to e.
pub within-ranged : (b e : ℕ) → within b e ≡ ranged (λ j. b) (λ j. e) 1
unfolding any
within-ranged b e = fun_ext (λ i. refl)

pub within_ranges : (b e n : ℕ) → b < e → e ≤ n → Ranges (λ j. b) (λ j. e) 1 n
within_ranges b e n h k =
    record { some = λ j l. h; rise = λ j l. absurd (omega arith); fits = λ j l. k }

-- ---- the layouts

-- Combinations: any list of k folds, and the s-th set.
pub cross-folds :
    (bs fs : List ℕ) (k w : ℕ) → length fs ≡ k →
    cross (folds bs fs) w ≡ ranged_split (fold_from bs fs) (fold_to bs fs) k (λ i. false) w
cross-folds bs fs k w h =
    ap (λ t. cross t w) (folds-ranged bs fs) ∙ ap (λ m. ranged_split (fold_from bs fs) (fold_to bs fs) m (λ i. false) w) h

pub entry_ranges :
    {bs : List ℕ} {N n : ℕ} → Borders bs N n → (k s : ℕ) → s < choose N k →
    Ranges (fold_from bs (entry N k s)) (fold_to bs (entry N k s)) k n
entry_ranges {bs} {N} {n} w k s h = folds_ranges w (entry N k s) k (entry-is_split N k s h)

-- k-fold.
pub cross-within : (b e w : ℕ) → cross (within b e) w ≡ ranged_split (λ j. b) (λ j. e) 1 (λ i. false) w
cross-within b e w = ap (λ t. cross t w) (within-ranged b e)

-- Walk-forward and rolling.
pub forward-within : (b e : ℕ) → forward b e ≡ ranged_split (λ j. b) (λ j. e) 1 (λ i. leb e i) 0
forward-within b e = ap (λ t. record { test = t; unused = λ i. leb e i; width = 0 }) (within-ranged b e)
