-- What the overlap count, the flags of `ml_get_train_times` and the naive marks mean.
use mathlib.Core.Path.{◌≡◌, refl}
use mathlib.Core.Bool.{true, false, not}
use mathlib.Core.List.{List, [], ◌∷◌}
use Prim.Native.Nat.{ℕ, ◌≤◌, ◌<◌}
use lib.IntN.{pos}
use lib.ListN.{length, get_or}
use Rattle.lists.specs.Base.{bit, tab, count, any}
use Rattle.lists.specs.AnyLaws.{any_here, any_some}
use Rattle.lists.specs.CountLaws.{count-le, count_none}
use Rattle.lists.specs.TabLaws.{length-tab, get_d_tab}
use Rattle.paper.specs.declared.span.Span.{Span}
use Rattle.paper.specs.Spans.{Table, table, span_of, reaches, overlap, drops}
use Rattle.paper.specs.Folds.{fold, even_border, even_borders}
use Rattle.paper.specs.Overlaps.{leaks, overlap_count, train_flags, naive_marks}

-- A training entry leaks for a test entry that it overlaps, and for no other reason.
module _ (T : Table) (train test : List ℕ) (i : ℕ) where
  pub leaks_for :
      leaks T train test i ≡ true →
      (j : ℕ) × (j < length test) × (overlap (T.span (get_or train i 0)) (T.span (get_or test j 0)) ≡ true)
  leaks_for h = any_some _ (length test) h

  pub entry-leaks :
      (j : ℕ) → j < length test → overlap (T.span (get_or train i 0)) (T.span (get_or test j 0)) ≡ true →
      leaks T train test i ≡ true
  entry-leaks j l h = any_here _ (length test) j l h

-- At most every training entry is counted, and none where no entry leaks.
pub overlap_count-le : (T : Table) (train test : List ℕ) → overlap_count T train test ≤ length train
overlap_count-le T train test = count-le (leaks T train test) (length train)

pub overlap_count_none :
    (T : Table) (train test : List ℕ) → ((i : ℕ) → i < length train → leaks T train test i ≡ false) → overlap_count T train test ≡ 0
overlap_count_none T train test h = count_none (leaks T train test) (length train) h

-- Repeats are each counted, and an entry counts once however many test entries it overlaps.
pub overlap_count_repeats : overlap_count (table (pos 0 ∷ pos 1 ∷ []) (pos 5 ∷ pos 2 ∷ [])) (0 ∷ 0 ∷ []) (1 ∷ 1 ∷ 1 ∷ []) ≡ 2
unfolding any count reaches
overlap_count_repeats = refl

-- One flag a row: 0 where some test span drops the row.
pub train_flags-length : (T : Table) (u : ℕ) (test : ℕ → Span) → length (train_flags T u test) ≡ T.rows
train_flags-length T u test = length-tab _ T.rows

pub train_flags_at :
    (T : Table) (u : ℕ) (test : ℕ → Span) (i : ℕ) → i < T.rows →
    get_or (train_flags T u test) i 0 ≡ bit (not (any (λ j. drops (test j) (T.span i)) u))
train_flags_at T u test i h = get_d_tab _ 0 T.rows i h

-- (4,1) against (3,5) is dropped, (6,7) is kept.
pub train_flags_backward :
    train_flags (table (pos 4 ∷ pos 6 ∷ []) (pos 1 ∷ pos 7 ∷ [])) 1 (span_of (pos 3 ∷ []) (pos 5 ∷ [])) ≡ 0 ∷ 1 ∷ []
unfolding tab any
train_flags_backward = refl

pub naive_marks_at : (n N s i : ℕ) → i < n → get_or (naive_marks n N s) i 0 ≡ bit (fold (even_borders n N) s i)
naive_marks_at n N s i h = get_d_tab _ 0 n i h

pub naive_marks_of_ten : naive_marks 10 3 1 ≡ 0 ∷ 0 ∷ 0 ∷ 0 ∷ 1 ∷ 1 ∷ 1 ∷ 0 ∷ 0 ∷ 0 ∷ []
unfolding tab even_border
naive_marks_of_ten = refl
