-- What the listing means: it has every k-element set of the folds 0..N-1, each once, in lexicographic order.
-- How many there are is `listing-length` of Listing.
use mathlib.Core.Path.{◌≡◌, refl, sym, ap, ◌∙◌}
use mathlib.Core.Bool.{true, ◌&&◌, and-eq-true_iff}
use mathlib.Core.List.{List, [], ◌∷◌, head-eq_of_cons-eq, tail-eq_of_cons-eq}
use Prim.Native.Nat.{ℕ, zero, suc, ◌+◌, ◌-◌, ◌≤◌, ◌<◌, zero-le}
use native.Mathlib.Decide.{dec_lt, ℕ_discrete}
use native.Mathlib.Omega.{arith}
use borrow.Author.Tests.{ltb-true, lt-ltb, eqb-true, eq-eqb}
use lib.Dec.{ltb, eqb}
use lib.ListN.{length, get_or}
use Rattle.paper.specs.Sets.{choose, listing, entry, ascends, all_below, is_split}
use Rattle.paper.proofs.Listing.{entry_first, entry_second}

-- `is_split` in pieces

pub is_split_parts : (N k : ℕ) (s : List ℕ) → is_split N k s ≡ true → (ascends s ≡ true) × (all_below N s ≡ true) × (length s ≡ k)
is_split_parts N k s h =
    let a = (and-eq-true_iff (ascends s && all_below N s) (eqb (length s) k)).0 h in
    let b = (and-eq-true_iff (ascends s) (all_below N s)).0 a.0 in
    (b.0, b.1, eqb-true (length s) k a.1)

pub is_split_of : (N k : ℕ) (s : List ℕ) → ascends s ≡ true → all_below N s ≡ true → length s ≡ k → is_split N k s ≡ true
is_split_of N k s up low long = rw (up, low, eq-eqb (length s) k long)

-- The list ascends, from f at the least, and stays below e: what `is_split` says of the folds, in a form to go along the list by.
abbrev pub Rises : ℕ → ℕ → List ℕ → Type 0
Rises f e [] = Unit {0}
Rises f e (a ∷ s) = (f ≤ a) × (a < e) × Rises (suc a) e s

pub rises_lower : (d f e : ℕ) (s : List ℕ) → d ≤ f → Rises f e s → Rises d e s
rises_lower d f e [] h r = tt
rises_lower d f e (a ∷ s) h r = (omega arith, r.1, r.2)

rises_ascends : (f e : ℕ) (s : List ℕ) → Rises f e s → ascends s ≡ true
unfolding ascends
rises_ascends f e [] r = refl
rises_ascends f e (a ∷ []) r = refl
rises_ascends f e (a ∷ (b ∷ s)) r = rw (lt-ltb a b r.2.0) (rises_ascends (suc a) e (b ∷ s) r.2)

rises_all_below : (f e : ℕ) (s : List ℕ) → Rises f e s → all_below e s ≡ true
unfolding all_below
rises_all_below f e [] r = refl
rises_all_below f e (a ∷ s) r = rw (lt-ltb a e r.1) (rises_all_below (suc a) e s r.2)

rises_of : (f e a : ℕ) (s : List ℕ) → f ≤ a → ascends (a ∷ s) ≡ true → all_below e (a ∷ s) ≡ true → Rises f e (a ∷ s)
unfolding ascends all_below
rises_of f e a [] h up low = (h, ltb-true a e ((and-eq-true_iff (ltb a e) true).0 low).0, tt)
rises_of f e a (b ∷ s) h up low =
    let u = (and-eq-true_iff (ltb a b) (ascends (b ∷ s))).0 up in
    let l = (and-eq-true_iff (ltb a e) (all_below e (b ∷ s))).0 low in
    (h, ltb-true a e l.0, rises_of (suc a) e b s (ltb-true a b u.0) u.1 l.1)

pub is_split_rises : (N k : ℕ) (s : List ℕ) → is_split N k s ≡ true → Rises 0 N s × (length s ≡ k)
is_split_rises N k [] h = (tt, (is_split_parts N k [] h).2)
is_split_rises N k (a ∷ s) h = let p = is_split_parts N k (a ∷ s) h in (rises_of 0 N a s zero-le p.0 p.1, p.2)

pub rises_is_split : (N k : ℕ) (s : List ℕ) → Rises 0 N s → length s ≡ k → is_split N k s ≡ true
rises_is_split N k s r long = is_split_of N k s (rises_ascends 0 N s r) (rises_all_below 0 N s r) long

-- A property of entry i, by the part that i lies in.
by_part : (P : List ℕ → Type 0) (f n k i : ℕ) → i < choose (suc n) (suc k)
    → (i < choose n k → P (f ∷ get_or (listing (suc f) n k) i []))
    → (choose n k ≤ i → i - choose n k < choose n (suc k) → P (get_or (listing (suc f) n (suc k)) (i - choose n k) []))
    → P (get_or (listing f (suc n) (suc k)) i [])
unfolding choose
by_part P f n k i h one two = go (dec_lt i (choose n k))
  where
    go : Dec (i < choose n k) → P (get_or (listing f (suc n) (suc k)) i [])
    go (yes lt) = rw (entry_first f n k i lt) (one lt)
    go (no ge) =
        let e : choose n k + (i - choose n k) ≡ i = omega arith in
        let there = rw e at (entry_second f n k (i - choose n k)) in
        rw there (two (omega arith) (omega arith))

-- Every listed set is a set

pub entry_length : (f n k i : ℕ) → i < choose n k → length (get_or (listing f n k) i []) ≡ k
unfolding listing choose
entry_length f n zero zero h = refl
entry_length f n zero (suc i) h = absurd (omega arith)
entry_length f zero (suc k) i h = absurd (omega arith)
entry_length f (suc n) (suc k) i h =
    by_part (λ s. length s ≡ suc k) f n k i h
    (λ lt. ap suc (entry_length (suc f) n k i lt))
    (λ ge lt. entry_length (suc f) n (suc k) (i - choose n k) lt)

pub entry_rises : (f n k i e : ℕ) → f + n ≡ e → i < choose n k → Rises f e (get_or (listing f n k) i [])
unfolding listing choose
entry_rises f n zero zero e q h = tt
entry_rises f n zero (suc i) e q h = absurd (omega arith)
entry_rises f zero (suc k) i e q h = absurd (omega arith)
entry_rises f (suc n) (suc k) i e q h =
    by_part (Rises f e) f n k i h
    (λ lt. (omega arith, omega arith, entry_rises (suc f) n k i e (omega arith) lt))
    (λ ge lt. rises_lower f (suc f) e (get_or (listing (suc f) n (suc k)) (i - choose n k) []) (omega arith)
    (entry_rises (suc f) n (suc k) (i - choose n k) e (omega arith) lt))

pub entry-is_split : (N k i : ℕ) → i < choose N k → is_split N k (entry N k i) ≡ true
entry-is_split N k i h = rises_is_split N k (entry N k i) (entry_rises 0 N k i N (omega arith) h) (entry_length 0 N k i h)

-- Every such set is listed

rises_listed : (f n k e : ℕ) (s : List ℕ) → f + n ≡ e → Rises f e s → length s ≡ k
    → (i : ℕ) × (i < choose n k) × (get_or (listing f n k) i [] ≡ s)
unfolding listing choose
rises_listed f n zero e [] q r long = (0, omega arith, refl)
rises_listed f n zero e (a ∷ s) q r long = absurd (omega arith)
rises_listed f n (suc k) e [] q r long = absurd (omega arith)
rises_listed f zero (suc k) e (a ∷ s) q r long = absurd (omega arith)
rises_listed f (suc n) (suc k) e (a ∷ s) q r long =
    go (ℕ_discrete f a)
    (rises_listed (suc f) n k e s (omega arith) (rises_lower (suc f) (suc a) e s (omega arith) r.2) (omega arith))
    (λ lt. rises_listed (suc f) n (suc k) e (a ∷ s) (omega arith) (lt, r.1, r.2) long)
  where
    Listed : ℕ → ℕ → ℕ → List ℕ → Type 0
    Listed f n k s = (i : ℕ) × (i < choose n k) × (get_or (listing f n k) i [] ≡ s)

    go : Dec (f ≡ a) → Listed (suc f) n k s → (f < a → Listed (suc f) n (suc k) (a ∷ s)) → Listed f (suc n) (suc k) (a ∷ s)
    go (yes eq) x y = (x.0, omega arith, entry_first f n k x.0 x.1 ∙ rw (x.2, eq))
    go (no ne) x y = let z = y (omega arith) in (choose n k + z.0, omega arith, entry_second f n k z.0 ∙ z.2)

pub is_split_listed : (N k : ℕ) (s : List ℕ) → is_split N k s ≡ true → (i : ℕ) × (i < choose N k) × (entry N k i ≡ s)
is_split_listed N k s h = let r = is_split_rises N k s h in rises_listed 0 N k N s (omega arith) r.0 r.1

-- The order is lexicographic

-- s comes before t: equal so far, and then smaller.
pub data Before : List ℕ → List ℕ → Type 0 where
  smaller : {a b : ℕ} {s t : List ℕ} → a < b → Before (a ∷ s) (b ∷ t)
  same : {a : ℕ} {s t : List ℕ} → Before s t → Before (a ∷ s) (a ∷ t)

pub before_differs : {s t : List ℕ} → Before s t → s ≡ t → ⊥
before_differs (smaller lt) e = omega (arith, head-eq_of_cons-eq e)
before_differs (same b) e = before_differs b (tail-eq_of_cons-eq e)

rises_before : (f e k : ℕ) (r s : List ℕ) → Rises (suc f) e s → length s ≡ suc k → Before (f ∷ r) s
rises_before f e k r [] up long = absurd (omega arith)
rises_before f e k r (a ∷ s) up long = smaller up.0

-- A set with the first fold, whatever its others, comes before each set without it.
first_before : (f n k j : ℕ) (r : List ℕ) → j < choose n (suc k) → Before (f ∷ r) (get_or (listing (suc f) n (suc k)) j [])
first_before f n k j r h =
    let up = entry_rises (suc f) n (suc k) j (suc f + n) refl h in
    rises_before f (suc f + n) k r (get_or (listing (suc f) n (suc k)) j []) up (entry_length (suc f) n (suc k) j h)

-- The later of two sets is without the first fold: it comes after any with it, and `both` compares it to the others.
second_before : (f n k i j : ℕ) → i < choose (suc n) (suc k) → j < choose n (suc k)
    → (both : choose n k ≤ i → Before (get_or (listing (suc f) n (suc k)) (i - choose n k) []) (get_or (listing (suc f) n (suc k)) j []))
    → Before (get_or (listing f (suc n) (suc k)) i []) (get_or (listing (suc f) n (suc k)) j [])
second_before f n k i j hi hj both =
    by_part (λ s. Before s (get_or (listing (suc f) n (suc k)) j [])) f n k i hi
    (λ lt. first_before f n k j (get_or (listing (suc f) n k) i []) hj)
    (λ ge lt. both ge)

listing_before : (f n k i j : ℕ) → i < j → j < choose n k → Before (get_or (listing f n k) i []) (get_or (listing f n k) j [])
unfolding choose
listing_before f n zero i j lt h = absurd (omega arith)
listing_before f zero (suc k) i j lt h = absurd (omega arith)
listing_before f (suc n) (suc k) i j lt h =
    by_part (Before (get_or (listing f (suc n) (suc k)) i [])) f n k j h
    (λ jlt. rw (entry_first f n k i (omega arith)) (same (listing_before (suc f) n k i j lt jlt)))
    (λ jge jlt. second_before f n k i (j - choose n k) (omega arith) jlt (λ ige. listing_before (suc f) n (suc k) (i - choose n k) (j - choose n k) (omega arith) jlt))

pub entry_before : (N k i j : ℕ) → i < j → j < choose N k → Before (entry N k i) (entry N k j)
entry_before N k i j lt h = listing_before 0 N k i j lt h

-- So no set is listed twice.
pub entry_once : (N k i j : ℕ) → i < choose N k → j < choose N k → entry N k i ≡ entry N k j → i ≡ j
entry_once N k i j hi hj e = go (dec_lt i j) (dec_lt j i)
  where
    go : Dec (i < j) → Dec (j < i) → i ≡ j
    go (yes lt) d = absurd (before_differs (entry_before N k i j lt hj) e)
    go (no ge) (yes lt) = absurd (before_differs (entry_before N k j i lt hi) (sym e))
    go (no ge) (no le) = omega arith
