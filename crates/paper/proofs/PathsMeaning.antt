-- What `nth` and the paths mean: `nth g ss p` is the p-th of the sets ss that hold g, the only one,
-- and along the paths every split serves each fold that it tests exactly once.
use mathlib.Core.Path.{◌≡◌, refl, ◌∙◌}
use mathlib.Core.Logic.{◌≢◌}
use mathlib.Core.Bool.{Bool, true, false, ◌&&◌, and-eq-true_iff}
use mathlib.Core.List.{List, [], ◌∷◌, ◌++◌}
use Prim.Native.Nat.{ℕ, zero, suc, ◌+◌, ◌-◌, ◌≤◌, ◌<◌, zero-le}
use native.Mathlib.Nat.{zero-add}
use native.Mathlib.Decide.{dec_lt}
use native.Mathlib.Omega.{arith}
use borrow.Author.Tests.{eqb-true, eq-eqb}
use lib.Dec.{eqb}
use lib.ListN.{length, get_or, take, length-append, get_or-append}
use lib.Seq.{take-append-le, take-append-add, get_or-append-add, length-take-le, take-length, take-suc, take-add}
use Rattle.lists.specs.Base.{bit}
use Rattle.lists.specs.FirstLaws.{first_from_at, first_from_none}
use Rattle.paper.specs.Sets.{choose, each, listing, entry}
use Rattle.paper.specs.Paths.{holds, tests_of, tests_before, nth, paths, split_on_path}
use Rattle.paper.proofs.Listing.{hold, hold-choose, each_length, each_at, each_take, listing-length, entry_first, tests_of-append, tests_of_same, tests_of_other, tests_of-hold, holds_first, holds_other}

-- i is the place of the p-th of the sets ss, from 0, that hold g.
pub record Pth (ss : List (List ℕ)) (g p i : ℕ) : Type 0 where
  pub within : i < length ss
  pub tests : holds g (get_or ss i []) ≡ true
  pub before : tests_before g ss i ≡ p

-- There is one such place, and a later place has a larger number

tests_before_step : (g : ℕ) (ss : List (List ℕ)) (i : ℕ) → i < length ss → holds g (get_or ss i []) ≡ true
    → tests_before g ss (suc i) ≡ suc (tests_before g ss i)
unfolding tests_of
tests_before_step g ss i h t = rw (take-suc ss i [] h, tests_of-append, t) (omega arith)

tests_before_more : (g : ℕ) (ss : List (List ℕ)) (i m : ℕ) → tests_before g ss i ≤ tests_before g ss (i + m)
tests_before_more g ss i m = rw (take-add i m ss, tests_of-append) (omega arith)

tests_before_later : (g : ℕ) (ss : List (List ℕ)) (i j : ℕ) → i < j → i < length ss → holds g (get_or ss i []) ≡ true
    → tests_before g ss i < tests_before g ss j
tests_before_later g ss i j lt h t =
    let e : suc i + (j - suc i) ≡ j = omega arith in
    let m : tests_before g ss (suc i) ≤ tests_before g ss j = rw e at (tests_before_more g ss (suc i) (j - suc i)) in
    omega (arith, tests_before_step g ss i h t)

pub pth_less : {ss : List (List ℕ)} {g p q i j : ℕ} → Pth ss g p i → Pth ss g q j → i < j → p < q
pth_less {ss} {g} {p} {q} {i} {j} a b lt = omega (arith, tests_before_later g ss i j lt a.within a.tests)

pub pth_one : {ss : List (List ℕ)} {g p i j : ℕ} → Pth ss g p i → Pth ss g p j → i ≡ j
pth_one {ss} {g} {p} {i} {j} a b = go (dec_lt i j) (dec_lt j i)
  where
    go : Dec (i < j) → Dec (j < i) → i ≡ j
    go (yes lt) d = omega (arith, pth_less a b lt)
    go (no ge) (yes lt) = omega (arith, pth_less b a lt)
    go (no ge) (no le) = omega arith

pub pth_below : {ss : List (List ℕ)} {g p i : ℕ} → Pth ss g p i → p < tests_of g ss
pth_below {ss} {g} {p} {i} w =
    omega (arith, rw take-length at (tests_before_later g ss i (length ss) w.within w.within w.tests))

-- By part: where the p-th set that holds g stands in a listing

pub pth_append_left : (ss rs : List (List ℕ)) {g p i : ℕ} → Pth ss g p i → Pth (ss ++ rs) g p i
pth_append_left ss rs {i = i} w = record {
  within = rw length-append (omega arith);
  tests = rw (get_or-append ss rs [] i w.within) w.tests;
  before = rw (take-append-le i ss rs (omega arith)) w.before;
}

pub pth_append_right : (ss rs : List (List ℕ)) {g p i : ℕ} → Pth rs g p i → Pth (ss ++ rs) g (tests_of g ss + p) (length ss + i)
pth_append_right ss rs w = record {
  within = rw length-append (omega arith);
  tests = rw get_or-append-add w.tests;
  before = rw (take-append-add, tests_of-append, w.before);
}

pub pth_each : (f : ℕ) (ss : List (List ℕ)) {g p i : ℕ} → f ≢ g → Pth ss g p i → Pth (each f ss) g p i
pth_each f ss {g} {p} {i} ne w = record {
  within = rw each_length w.within;
  tests = rw (each_at f ss i w.within, holds_other f g (get_or ss i []) ne) w.tests;
  before = rw (each_take, tests_of_other f g (take i ss) ne) w.before;
}

-- g is the first fold: the place is the number.
pub pth_here : (f n k p : ℕ) → p < choose n k → Pth (listing f (suc n) (suc k)) f p p
unfolding listing choose
pth_here f n k p h =
    let ss = listing (suc f) n k in
    let lt : p < length ss = rw listing-length h in
    let le : p ≤ length (each f ss) = rw each_length (omega arith) in
    record {
      within = rw (listing-length f (suc n) (suc k)) (omega arith);
      tests = rw (entry_first f n k p h) (holds_first f (get_or ss p []));
      before = rw (take-append-le p (each f ss) (listing (suc f) n (suc k)) le, each_take, tests_of_same)
          (length-take-le p ss (omega arith));
    }

-- g is a later fold, and its p-th set holds the first fold ..
pub pth_first : (f n k : ℕ) {g p i : ℕ} → f < g → Pth (listing (suc f) n k) g p i → Pth (listing f (suc n) (suc k)) g p i
unfolding listing
pth_first f n k h w =
    pth_append_left (each f (listing (suc f) n k)) (listing (suc f) n (suc k)) (pth_each f (listing (suc f) n k) (omega arith) w)

-- .. or comes after all that do.
pub pth_second : (f n k : ℕ) {g p i : ℕ} → f < g → g < f + suc n → Pth (listing (suc f) n (suc k)) g p i
    → Pth (listing f (suc n) (suc k)) g (hold n k + p) (choose n k + i)
unfolding listing
pth_second f n k {g} lo hi w =
    let ss = listing (suc f) n k in
    rw (each_length, listing-length (suc f) n k, tests_of_other f g ss (omega arith), tests_of-hold (suc f) n k g lo (omega arith)) at
    (pth_append_right (each f ss) (listing (suc f) n (suc k)) w)

-- `nth` finds it

fails : (b : Bool) → (b ≡ true → ⊥) → b ≡ false
fails true h = absurd (h refl)
fails false h = refl

-- The test whose first place `nth` is.
abbrev passes : List (List ℕ) → ℕ → ℕ → ℕ → Bool
passes ss g p i = holds g (get_or ss i []) && eqb (tests_before g ss i) p

passes_pth : (ss : List (List ℕ)) (g p i : ℕ) → i < length ss → passes ss g p i ≡ true → Pth ss g p i
passes_pth ss g p i h t =
    let b = (and-eq-true_iff (holds g (get_or ss i [])) (eqb (tests_before g ss i) p)).0 t in
    record { within = h; tests = b.0; before = eqb-true (tests_before g ss i) p b.1 }

pub nth_pth : {ss : List (List ℕ)} {g p i : ℕ} → Pth ss g p i → nth g ss p ≡ i
nth_pth {ss} {g} {p} {i} w =
    first_from_at (passes ss g p) 0 (length ss) i zero-le (omega arith)
    (rw (w.tests, eq-eqb (tests_before g ss i) p w.before))
    (λ j ge lt. fails (passes ss g p j) (λ t. omega (arith, pth_one (passes_pth ss g p j (omega arith) t) w)))

pth_cons : (s : List ℕ) {ss : List (List ℕ)} {g p q i : ℕ} → bit (holds g s) + p ≡ q → Pth ss g p i → Pth (s ∷ ss) g q (suc i)
unfolding tests_of
pth_cons s e w = record { within = omega arith; tests = w.tests; before = rw w.before e }

pth_some : (ss : List (List ℕ)) (g p : ℕ) → p < tests_of g ss → (i : ℕ) × Pth ss g p i
unfolding tests_of
pth_some [] g p h = absurd (omega arith)
pth_some (s ∷ ss) g p h = go (holds g s) refl p h (pth_some ss g)
  where
    Some : List (List ℕ) → ℕ → Type 0
    Some ss p = (i : ℕ) × Pth ss g p i

    go : (b : Bool) → holds g s ≡ b → (p : ℕ) → p < bit b + tests_of g ss → ((q : ℕ) → q < tests_of g ss → Some ss q) → Some (s ∷ ss) p
    go true e zero h more = (0, record { within = omega arith; tests = e; before = refl })
    go true e (suc p) h more = let r = more p (omega arith) in (suc r.0, pth_cons s (rw e (omega arith)) r.1)
    go false e p h more = let r = more p (omega arith) in (suc r.0, pth_cons s (rw e (omega arith)) r.1)

-- Where more than p sets hold g, `nth` is such a place, and by pth-one there is no other ..
pub nth_is : (ss : List (List ℕ)) (g p : ℕ) → p < tests_of g ss → Pth ss g p (nth g ss p)
nth_is ss g p h = let r = pth_some ss g p h in rw (nth_pth r.1) r.1

-- .. and where not, it is the length of the list.
pub nth_none : (ss : List (List ℕ)) (g p : ℕ) → tests_of g ss ≤ p → nth g ss p ≡ length ss
nth_none ss g p h =
    first_from_none (passes ss g p) 0 (length ss)
    (λ j ge lt. fails (passes ss g p j) (λ t. omega (arith, pth_below (passes_pth ss g p j (omega arith) t))))
    ∙ zero-add (length ss)

-- Every place that holds g is the nth of the count of those before it, and of no other number.
pub nth-covers : (ss : List (List ℕ)) (g i : ℕ) → i < length ss → holds g (get_or ss i []) ≡ true
    → (tests_before g ss i < tests_of g ss) × (nth g ss (tests_before g ss i) ≡ i)
nth-covers ss g i h t =
    let w : Pth ss g (tests_before g ss i) i = record { within = h; tests = t; before = refl } in
    (pth_below w, nth_pth w)

pub nth_differs : (ss : List (List ℕ)) (g p q : ℕ) → p < tests_of g ss → q < tests_of g ss → nth g ss p ≡ nth g ss q → p ≡ q
nth_differs ss g p q hp hq e =
    let a = nth_is ss g p hp in
    let b = nth_is ss g q hq in
    cc

-- The paths

-- Each fold is tested in C(N-1,k-1) splits, and that is how many paths there are.
pub tests_of-paths : (N k g : ℕ) → g < N → 1 ≤ k → tests_of g (listing 0 N k) ≡ paths N k
tests_of-paths N k g h q = tests_of-hold 0 N k g zero-le (omega arith) ∙ hold-choose N k (omega arith) q

module _ (N k g : ℕ) (h : g < N) (some : 1 ≤ k) where
  -- Path p takes for the fold g the p-th split that tests g.
  pub split_on_path_is : (p : ℕ) → p < paths N k → Pth (listing 0 N k) g p (split_on_path N k p g)
  split_on_path_is p hp = nth_is (listing 0 N k) g p (rw (tests_of-paths N k g h some) hp)

  -- Two paths take different splits for it ..
  pub split_on_path_differs : (p q : ℕ) → p < paths N k → q < paths N k → split_on_path N k p g ≡ split_on_path N k q g → p ≡ q
  split_on_path_differs p q hp hq e =
      nth_differs (listing 0 N k) g p q (rw (tests_of-paths N k g h some) hp) (rw (tests_of-paths N k g h some) hq) e

  -- .. and every split that tests it is taken for it by a path: the count of those before it.
  pub split_on_path-covers : (i : ℕ) → i < choose N k → holds g (entry N k i) ≡ true
      → (p : ℕ) × (p < paths N k) × (split_on_path N k p g ≡ i)
  split_on_path-covers i hi t =
      let c = nth-covers (listing 0 N k) g i (rw listing-length hi) t in
      (tests_before g (listing 0 N k) i, rw (← tests_of-paths N k g h some) c.0, c.1)
