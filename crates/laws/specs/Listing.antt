-- Demand 3 for split numbers and paths: for every N and k that are accepted, and every number, what a call answers is what
-- the plain listing puts there.
--   folds of split s          the folds of entry s
--   number of a fold set      its place in the listing
--   next fold set             the entry after it, and none after the last
--   split on path p, fold g   the p-th entry, from 0, that holds g
--   whole path p              that, for each fold
-- Each law is of any answer that the call's contract allows: the contract's equations are its premises, and the answer r is
-- arbitrary. Nothing here knows how an answer is worked out.
use Rattle.std.specs.Prelude.{◌≡◌, refl, Bool, true, false, not, ◌||◌, List, [], ◌∷◌, ◌++◌, ℕ, ◌+◌, ◌-◌, ◌<◌, eqb, leb, ltb, length, get_or, Option, Some, None, Result, Ok}
use Rattle.std.proofs.Common.{sym, ap, ◌∙◌, pos_of_ne-zero, arith, lt-ltb, le-ltb, eq-eqb}
use Prim.{Unit, tt}
use Rattle.std.proofs.lemmas.Bool.{lt-leb, eqb-false, not-true}
use Rattle.lists.specs.AnyLaws.{both, never}
use Rattle.lists.specs.TabLaws.{length-tab, get_d_tab}
use Rattle.paper.specs.declared.numbers.FoldSet.{FoldSet}
use Rattle.paper.specs.declared.numbers.SplitNumber.{SplitNumber}
use Rattle.paper.specs.declared.refusal.Refusal.{Refusal}
use Rattle.paper.specs.Refusals.{done}
use Rattle.paper.specs.Sets.{choose, listing, entry}
use Rattle.paper.specs.Paths.{tests_of, paths, split_on_path, path_of}
use Rattle.paper.specs.Handed.{handed, list_of}
use Rattle.paper.specs.Places.{place_of, has_next, next_folds}
use Rattle.paper.specs.Answers.{said, said_placed}
use Rattle.paper.specs.Checks.{Check, no_such, no_split, combination_checks, numbers_checks, split_checks, set_checks, path_checks, whole_path_checks}
use Rattle.paper.specs.SplitCalls.{split_count, path_count, split_folds, set_number, set_next, path_split, path_written, path_after}
use Rattle.paper.proofs.AnswersMeaning.{said_one, said_placed_one}
use Rattle.paper.proofs.ChecksMeaning.{clear, checked-clear}
use Rattle.paper.proofs.Listing.{listing-length}
use Rattle.paper.proofs.ListingMeaning.{entry-is_split}
use Rattle.paper.proofs.PathsMeaning.{Pth, split_on_path_is, tests_of-paths}
use Rattle.paper.proofs.PlacesMeaning.{place_of-entry}

-- No check of N and k is due.
abbrev pub Accepted : ℕ → ℕ → Type 0
Accepted N k = clear (numbers_checks N k) ≡ true

first_false : (a b : Bool) → (a || b) ≡ false → a ≡ false
first_false true b h = never refl h
first_false false b h = refl

clear_join : (xs ys : List Check) → clear xs ≡ true → clear ys ≡ true → clear (xs ++ ys) ≡ true
clear_join [] ys a b = b
clear_join (c ∷ xs) ys a b = let t = both {a = not c.due} a in rw t.0 (clear_join xs ys t.1 b)

module _ (N k : ℕ) (accepted : Accepted N k) where
  -- ---- counts

  pub split_count_listed : (r : Result ℕ Refusal) → said r ≡ split_count N k → r ≡ Ok (length (listing 0 N k))
  split_count_listed r answer =
      said_one r (Ok (length (listing 0 N k)))
      (answer ∙ checked-clear (numbers_checks N k) (choose N k) accepted ∙ ap done (sym (listing-length 0 N k)))

  some : 0 < k
  some =
      let t = (both {a = not (ltb N 2)} accepted).1 in
      let u = not-true (eqb k 0 || leb N k) (both {a = not (eqb k 0 || leb N k)} t).0 in
      pos_of_ne-zero (eqb-false k 0 (first_false (eqb k 0) (leb N k) u))

  -- There are as many paths as splits that test a fold, whichever fold it is: C(N-1,k-1).
  pub path_count_listed : (g : ℕ) → g < N → (r : Result ℕ Refusal) → said r ≡ path_count N k
      → (r ≡ Ok (tests_of g (listing 0 N k))) × (tests_of g (listing 0 N k) ≡ choose (N - 1) (k - 1))
  path_count_listed g h r answer =
      let tests = tests_of-paths N k g h some in (
        said_one r (Ok (tests_of g (listing 0 N k)))
            (answer ∙ checked-clear (numbers_checks N k) (paths N k) accepted ∙ ap done (sym tests)),
        tests,
      )

  -- ---- folds of a split

  split_clear : (s : ℕ) → s < choose N k → clear (split_checks N k s) ≡ true
  split_clear s h = clear_join (numbers_checks N k) (no_such (choose N k) s ∷ []) accepted (rw (lt-leb (choose N k) s h))

  pub folds_listed : (s : ℕ) → s < choose N k → (r : Result FoldSet Refusal)
      → said r ≡ split_folds N k s → r ≡ Ok (handed (entry N k s))
  folds_listed s h r answer =
      said_one r (Ok (handed (entry N k s)))
      (answer ∙ checked-clear (split_checks N k s) (handed (entry N k s)) (split_clear s h))

  -- ---- number of a set, and next set

  -- The set is entry i. (Every split is some entry: `is_split_listed` of paper.)
  module _ (i : ℕ) (within : i < choose N k) (set : FoldSet) (is : list_of set ≡ entry N k i) where
    set_clear : clear (set_checks N k (list_of set)) ≡ true
    set_clear = clear_join (numbers_checks N k) (no_split N k (list_of set) ∷ []) accepted (rw (is, entry-is_split N k i within))

    place : place_of N k (list_of set) ≡ i
    place = place_of-entry N k i (list_of set) within (sym is)

    pub number_listed : (r : Result SplitNumber Refusal) → said_placed r ≡ set_number N k (list_of set) → r ≡ Ok (record { 0 = i })
    number_listed r answer =
        said_placed_one r (Ok (record { 0 = i }))
        (answer ∙ checked-clear (set_checks N k (list_of set)) (place_of N k (list_of set)) set_clear ∙ ap done place)

    module _ (r : Result (Option FoldSet) Refusal) (answer : said r ≡ set_next N k (list_of set)) where
      is_next : r ≡ Ok (next_folds N k (list_of set))
      is_next =
          said_one r (Ok (next_folds N k (list_of set)))
          (answer ∙ checked-clear (set_checks N k (list_of set)) (next_folds N k (list_of set)) set_clear)

      pub next_listed : i + 1 < choose N k → r ≡ Ok (Some (handed (entry N k (i + 1))))
      next_listed more =
          let t : has_next N k (list_of set) ≡ true = rw place (lt-ltb (i + 1) (choose N k) more) in
          is_next ∙ rw (t, place)

      pub next_last : i + 1 ≡ choose N k → r ≡ Ok None
      next_last last =
          let f : has_next N k (list_of set) ≡ false = rw place (le-ltb (i + 1) (choose N k) (omega arith)) in
          is_next ∙ rw f

  -- ---- paths

  -- `Pth ss g p i`: i is the place of the p-th of the sets ss, from 0, that hold g. There is only one: `pth_one` of paper.
  module _ (p : ℕ) (h : p < paths N k) where
    pub path_listed : (g : ℕ) → g < N → (r : Result SplitNumber Refusal) → said_placed r ≡ path_split N k p g
        → (i : ℕ) × (r ≡ Ok (record { 0 = i })) × Pth (listing 0 N k) g p i
    path_listed g hg r answer =
        let i = split_on_path N k p g in
        let c = clear_join (numbers_checks N k) (no_such (paths N k) p ∷ no_such N g ∷ []) accepted
        (rw (lt-leb (paths N k) p h, lt-leb N g hg)) in (
          i,
          said_placed_one r (Ok (record { 0 = i })) (answer ∙ checked-clear (path_checks N k p g) i c),
          split_on_path_is N k g hg some p h,
        )

    -- The lent list has N places; afterwards the p-th split that tests g stands at place g.
    pub whole_path_listed : (old new : List ℕ) → length old ≡ N → (r : Result (Unit {0}) Refusal)
        → said r ≡ path_written N k p (length old) → new ≡ path_after N k p old
        → (r ≡ Ok tt) × (length new ≡ N) × ((g : ℕ) → g < N → Pth (listing 0 N k) g p (get_or new g 0))
    whole_path_listed old new long r answer written =
        let t = both {a = not (ltb N 2)} accepted in
        let c = clear_join (combination_checks N k) (no_such (paths N k) p ∷ []) t.1 (rw (lt-leb (paths N k) p h)) in
        let d = checked-clear (whole_path_checks N k p (length old)) (tt {0}) (rw (t.0, eq-eqb (length old) N long) c) in
        let is : new ≡ path_of N k p = written ∙ rw d in (
          said_one r (Ok tt) (answer ∙ d),
          rw is (length-tab (split_on_path N k p) N),
          λ g hg. rw (is, get_d_tab (split_on_path N k p) 0 N g hg) (split_on_path_is N k g hg some p h),
        )
