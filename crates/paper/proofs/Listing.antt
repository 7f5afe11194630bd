-- Laws of `choose`, `listing` and `tests_of`, by part: what holds of the sets with the first fold and of those without it.
-- The proofs of the code cite these; what they amount to is said in ListingMeaning and PathsMeaning.
use mathlib.Core.Path.{◌≡◌, refl, sym, ap, ◌∙◌}
use mathlib.Core.Logic.{◌≢◌}
use mathlib.Core.Bool.{true}
use mathlib.Core.List.{List, [], ◌∷◌, ◌++◌}
use Prim.Native.Nat.{ℕ, zero, suc, ◌+◌, ◌-◌, ◌≤◌, ◌<◌}
use native.Mathlib.Nat.{not-suc-le-zero, le_of_suc-le-suc, add-zero, zero-add}
use native.Mathlib.Decide.{dec_le, ℕ_discrete}
use native.Mathlib.Omega.{arith}
use borrow.Author.Tests.{eq-eqb, ne_eqb}
use lib.ListN.{length, get_or, take, length-append, get_or-append}
use lib.Seq.{get_or-append-add}
use Rattle.paper.specs.Sets.{choose, each, listing}
use Rattle.paper.specs.Paths.{holds, tests_of}

-- C(n,k)

pub choose_past : (n k : ℕ) → n < k → choose n k ≡ 0
unfolding choose
choose_past n zero h = absurd (not-suc-le-zero h)
choose_past zero (suc k) h = refl
choose_past (suc n) (suc k) h = omega (arith, choose_past n k (omega arith), choose_past n (suc k) (omega arith))

pub choose_room : (n k i : ℕ) → i < choose n k → k ≤ n
choose_room n k i h = go (dec_le k n)
  where
    go : Dec (k ≤ n) → k ≤ n
    go (yes le) = le
    go (no gt) = omega (arith, choose_past n k (omega arith))

pub choose_self : (n : ℕ) → choose n n ≡ 1
unfolding choose
choose_self zero = refl
choose_self (suc n) = omega (arith, choose_self n, choose_past n (suc n) (omega arith))

choose_halves : (n a b : ℕ) → a + b ≡ n → choose n a ≡ choose n b
unfolding choose
choose_halves n zero b e = rw (← zero-add b, e, choose_self)
choose_halves n (suc a) zero e = rw (← add-zero (suc a), e, choose_self)
choose_halves zero (suc a) (suc b) e = absurd (omega arith)
choose_halves (suc n) (suc a) (suc b) e =
    omega (arith, choose_halves n a (suc b) (omega arith), choose_halves n (suc a) b (omega arith))

pub choose_symmetric : (n k : ℕ) → k ≤ n → choose n k ≡ choose n (n - k)
choose_symmetric n k h = choose_halves n k (n - k) (omega arith)

-- How many k-element sets of n folds hold a given one of these folds.
unfoldable pub hold : ℕ → ℕ → ℕ
hold n zero = 0
hold zero (suc k) = 0
hold (suc n) (suc k) = choose n k

pub hold_pascal : (n k : ℕ) → 1 ≤ n → hold n k + hold n (suc k) ≡ choose n k
unfolding hold choose
hold_pascal zero k h = absurd (not-suc-le-zero h)
hold_pascal (suc n) zero h = refl
hold_pascal (suc n) (suc k) h = refl

pub hold-choose : (n k : ℕ) → 1 ≤ n → 1 ≤ k → hold n k ≡ choose (n - 1) (k - 1)
unfolding hold
hold-choose n zero p q = absurd (not-suc-le-zero q)
hold-choose zero (suc k) p q = absurd (not-suc-le-zero p)
hold-choose (suc n) (suc k) p q =
    let a : suc n - 1 ≡ n = omega arith in
    let b : suc k - 1 ≡ k = omega arith in
    rw (a, b)

-- The sets, by part

pub each_length : (f : ℕ) (ss : List (List ℕ)) → length (each f ss) ≡ length ss
unfolding each
each_length f [] = refl
each_length f (s ∷ ss) = ap suc (each_length f ss)

pub each_at : (f : ℕ) (ss : List (List ℕ)) (i : ℕ) → i < length ss → get_or (each f ss) i [] ≡ f ∷ get_or ss i []
unfolding each
each_at f [] i h = absurd (not-suc-le-zero h)
each_at f (s ∷ ss) zero h = refl
each_at f (s ∷ ss) (suc i) h = each_at f ss i (le_of_suc-le-suc h)

pub each_take : (f : ℕ) (ss : List (List ℕ)) (i : ℕ) → take i (each f ss) ≡ each f (take i ss)
unfolding each
each_take f ss zero = refl
each_take f [] (suc i) = refl
each_take f (s ∷ ss) (suc i) = ap (λ l. (f ∷ s) ∷ l) (each_take f ss i)

pub listing-length : (f n k : ℕ) → length (listing f n k) ≡ choose n k
unfolding listing choose
listing-length f n zero = refl
listing-length f zero (suc k) = refl
listing-length f (suc n) (suc k) =
    rw (length-append, each_length, listing-length (suc f) n k, listing-length (suc f) n (suc k))

-- The entries that hold the first fold ..
pub entry_first : (f n k i : ℕ) → i < choose n k → get_or (listing f (suc n) (suc k)) i [] ≡ f ∷ get_or (listing (suc f) n k) i []
unfolding listing
entry_first f n k i h =
    let lt : i < length (listing (suc f) n k) = rw listing-length h in
    get_or-append (each f (listing (suc f) n k)) (listing (suc f) n (suc k)) [] i (rw each_length lt)
    ∙ each_at f (listing (suc f) n k) i lt

-- .. and after them those that don't.
pub entry_second : (f n k i : ℕ) → get_or (listing f (suc n) (suc k)) (choose n k + i) [] ≡ get_or (listing (suc f) n (suc k)) i []
unfolding listing
entry_second f n k i =
    rw (← listing-length (suc f) n k, ← each_length f (listing (suc f) n k))
    (get_or-append-add (each f (listing (suc f) n k)) (listing (suc f) n (suc k)) i [])

-- How many sets hold a fold, by part

pub tests_of-append : (g : ℕ) (ss rs : List (List ℕ)) → tests_of g (ss ++ rs) ≡ tests_of g ss + tests_of g rs
unfolding tests_of
tests_of-append g [] rs = sym (zero-add (tests_of g rs))
tests_of-append g (s ∷ ss) rs = omega (arith, tests_of-append g ss rs)

pub holds_first : (f : ℕ) (s : List ℕ) → holds f (f ∷ s) ≡ true
unfolding holds
holds_first f s = rw (eq-eqb f f refl)

pub holds_other : (f g : ℕ) (s : List ℕ) → f ≢ g → holds g (f ∷ s) ≡ holds g s
unfolding holds
holds_other f g s ne = rw (ne_eqb f g ne)

pub tests_of_same : (f : ℕ) (ss : List (List ℕ)) → tests_of f (each f ss) ≡ length ss
unfolding tests_of each
tests_of_same f [] = refl
tests_of_same f (s ∷ ss) = rw holds_first (omega (arith, tests_of_same f ss))

pub tests_of_other : (f g : ℕ) (ss : List (List ℕ)) → f ≢ g → tests_of g (each f ss) ≡ tests_of g ss
unfolding tests_of each
tests_of_other f g [] ne = refl
tests_of_other f g (s ∷ ss) ne = rw (holds_other f g s ne, tests_of_other f g ss ne)

pub tests_of_below : (f n k g : ℕ) → g < f → tests_of g (listing f n k) ≡ 0
unfolding tests_of listing holds
tests_of_below f n zero g h = refl
tests_of_below f zero (suc k) g h = refl
tests_of_below f (suc n) (suc k) g h =
    rw (
      tests_of-append,
      tests_of_other f g (listing (suc f) n k) (omega arith),
      tests_of_below (suc f) n k g (omega arith),
      tests_of_below (suc f) n (suc k) g (omega arith),
    )

-- Every fold of the n from f on is in as many sets as any other.
pub tests_of-hold : (f n k g : ℕ) → f ≤ g → g < f + n → tests_of g (listing f n k) ≡ hold n k
unfolding tests_of listing holds hold
tests_of-hold f n zero g lo hi = refl
tests_of-hold f zero (suc k) g lo hi = refl
tests_of-hold f (suc n) (suc k) g lo hi =
    rw tests_of-append (go (ℕ_discrete f g)
    (λ lt. tests_of-hold (suc f) n k g lt (omega arith))
    (λ lt. tests_of-hold (suc f) n (suc k) g lt (omega arith)))
  where
    go : Dec (f ≡ g) → (f < g → tests_of g (listing (suc f) n k) ≡ hold n k)
        → (f < g → tests_of g (listing (suc f) n (suc k)) ≡ hold n (suc k))
        → tests_of g (each f (listing (suc f) n k)) + tests_of g (listing (suc f) n (suc k)) ≡ choose n k
    go (yes e) a b =
        rw (← e, tests_of_same, listing-length, tests_of_below (suc f) n (suc k) f (omega arith), add-zero)
    go (no ne) a b =
        rw (tests_of_other f g (listing (suc f) n k) ne, a (omega arith), b (omega arith)) (hold_pascal n k (omega arith))
