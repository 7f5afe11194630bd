-- In how many splits a row is tested (01, "Combinations and paths"): in exactly as many as there are paths. And the split that a
-- path takes for a row does test it. Said of any borders that begin at 0, rise and end at n.
use mathlib.Core.Path.{◌≡◌, refl, sym, ap, ◌∙◌}
use mathlib.Core.Bool.{Bool, true, false}
use mathlib.Core.List.{List, [], ◌∷◌}
use Prim.Native.Nat.{ℕ, zero, suc, ◌≤◌, ◌<◌}
use native.Mathlib.Decide.{ℕ_discrete}
use native.Mathlib.Omega.{arith}
use borrow.Author.Tests.{ltb-true, eq-eqb, ne_eqb}
use lib.Dec.{ltb, eqb}
use lib.ListN.{length, get_or}
use lib.Seq.{take-length, take-suc}
use Rattle.lists.specs.Base.{count}
use Rattle.lists.specs.AnyLaws.{both}
use Rattle.lists.specs.CountLaws.{count_ext}
use Rattle.paper.specs.Folds.{fold, folds, fold_of}
use Rattle.paper.specs.Sets.{choose, listing, entry, all_below}
use Rattle.paper.specs.Paths.{holds, tests_of, tests_before, paths, split_on_path}
use Rattle.paper.proofs.FoldsMeaning.{Borders, fold-only, fold_of_below, fold_of-fold}
use Rattle.paper.proofs.Listing.{listing-length, tests_of-append}
use Rattle.paper.proofs.ListingMeaning.{is_split_parts, entry-is_split}
use Rattle.paper.proofs.PathsMeaning.{tests_of-paths, split_on_path_is}

-- The sets that hold g, counted by place.
count-holds : (g : ℕ) (ss : List (List ℕ)) (i : ℕ) → i ≤ length ss → count (λ j. holds g (get_or ss j [])) i ≡ tests_before g ss i
unfolding count tests_of
count-holds g ss zero h = refl
count-holds g ss (suc i) h =
    rw (take-suc ss i [] (omega arith), tests_of-append) (omega (arith, count-holds g ss i (omega arith)))

module _ {bs : List ℕ} {N n : ℕ} (w : Borders bs N n) (r : ℕ) (h : r < n) where
  fold_is : (f : ℕ) → f < N → fold bs f r ≡ eqb f (fold_of bs N r)
  fold_is f l = go (ℕ_discrete f (fold_of bs N r))
    where
      other : (f ≡ fold_of bs N r → ⊥) → (t : Bool) → fold bs f r ≡ t → t ≡ false
      other ne true e = absurd (ne (fold-only w f (fold_of bs N r) r l (fold_of_below w r h) e (fold_of-fold w r h)))
      other ne false e = refl

      go : Dec (f ≡ fold_of bs N r) → fold bs f r ≡ eqb f (fold_of bs N r)
      go (yes e) = ap (λ g. fold bs g r) e ∙ fold_of-fold w r h ∙ sym (eq-eqb f (fold_of bs N r) e)
      go (no ne) = other ne (fold bs f r) refl ∙ sym (ne_eqb f (fold_of bs N r) ne)

  -- A split tests the rows of the folds that it holds.
  pub folds-holds : (s : List ℕ) → all_below N s ≡ true → folds bs s r ≡ holds (fold_of bs N r) s
  unfolding folds holds all_below
  folds-holds [] low = refl
  folds-holds (f ∷ s) low =
      let l = both {a = ltb f N} low in
      rw (fold_is f (ltb-true f N l.0), folds-holds s l.1)

  module _ (k : ℕ) (some : 1 ≤ k) where
    entry-holds : (i : ℕ) → i < choose N k → folds bs (entry N k i) r ≡ holds (fold_of bs N r) (entry N k i)
    entry-holds i l = folds-holds (entry N k i) (is_split_parts N k (entry N k i) (entry-is_split N k i l)).1

    pub row_tested : count (λ i. folds bs (entry N k i) r) (choose N k) ≡ paths N k
    row_tested =
        count_ext _ _ (choose N k) entry-holds
        ∙ rw (← listing-length 0 N k) (count-holds (fold_of bs N r) (listing 0 N k) (length (listing 0 N k)) (omega arith))
        ∙ ap (tests_of (fold_of bs N r)) (take-length (listing 0 N k))
        ∙ tests_of-paths N k (fold_of bs N r) (fold_of_below w r h) some

    pub path_tests : (p : ℕ) → p < paths N k → folds bs (entry N k (split_on_path N k p (fold_of bs N r))) r ≡ true
    path_tests p l =
        let s = split_on_path_is N k (fold_of bs N r) (fold_of_below w r h) some p l in
        entry-holds (split_on_path N k p (fold_of bs N r)) (omega (arith, s.within, listing-length 0 N k)) ∙ s.tests
