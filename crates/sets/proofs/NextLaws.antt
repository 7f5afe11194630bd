-- The first and the last set of a listing, and the set after one that is not the last.
use mathlib.Core.Path.{◌≡◌, refl, sym, ap, subst, ◌∙◌}
use mathlib.Core.Bool.{true}
use mathlib.Core.List.{List, [], ◌∷◌, ◌++◌, append_assoc, append-nil}
use Prim.Native.Nat.{ℕ, zero, suc, ◌+◌, ◌-◌, ◌≤◌, ◌<◌, zero-le}
use native.Mathlib.Nat.{add-zero}
use native.Mathlib.Decide.{dec_le, ℕ_discrete}
use native.Mathlib.Omega.{arith}
use borrow.Author.Tests.{lt-ltb, le-ltb}
use native.Mathlib.Numerals.{add-one}
use lib.ListN.{length, get_or, take, length-append}
use lib.Seq.{drop-length, drop-cons, split_at, length-take-le}
use Rattle.paper.specs.Sets.{choose, listing}
use Rattle.paper.proofs.Listing.{choose_past, choose_self, entry_first, entry_second}
use Rattle.paper.proofs.ListingMeaning.{Rises, rises_lower, is_split_rises}
use Rattle.std.specs.Prelude.{None, Some}
use Rattle.paper.specs.Sets.{is_split}
use Rattle.paper.specs.declared.numbers.FoldSet.{FoldSet}
use Rattle.paper.specs.Handed.{handed, list_of}
use Rattle.paper.proofs.PlacesMeaning.{place_of-entry}
use Rattle.paper.specs.Places.{next_folds}
use Rattle.sets.specs.Work.{Tidy, up, Highest, Turn}
use Rattle.sets.proofs.HandedLaws.{list_of_at, list_of-handed, handed-count}
use Rattle.sets.proofs.NumberingLaws.{rises_room}

-- ---- m folds one after another

length_up : (a m : ℕ) → length (up a m) ≡ m
unfolding up
length_up a zero = refl
length_up a (suc m) = ap suc (length_up (suc a) m)

up_more : (a m : ℕ) → up a (m + 1) ≡ up a m ++ (a + m) ∷ []
unfolding up
up_more a m = rw (add-one m) (go a m)
  where
    go : (a m : ℕ) → up a (suc m) ≡ up a m ++ (a + m) ∷ []
    go a zero = let e : a + 0 ≡ a = add-zero a in rw e
    go a (suc m) = let e : suc a + m ≡ a + suc m = omega arith in rw (go (suc a) m, e)

up_none : (a b : ℕ) → up a 0 ≡ up b 0
unfolding up
up_none a b = refl

-- ---- the ends of a listing

choose_some : (n k : ℕ) → k ≤ n → 0 < choose n k
unfolding choose
choose_some n zero h = omega arith
choose_some zero (suc k) h = absurd (omega arith)
choose_some (suc n) (suc k) h = omega (arith, choose_some n k (omega arith))

entry_zero : (f n k : ℕ) → k ≤ n → get_or (listing f n k) 0 [] ≡ up f k
unfolding up listing
entry_zero f n zero h = refl
entry_zero f zero (suc k) h = absurd (omega arith)
entry_zero f (suc n) (suc k) h =
    entry_first f n k 0 (choose_some n k (omega arith)) ∙ ap (λ s. f ∷ s) (entry_zero (suc f) n k (omega arith))

-- The last set has the highest folds: k below e, the folds being those from f up to e.
entry_last : (f n k e : ℕ) → f + n ≡ e → k ≤ n → get_or (listing f n k) (choose n k - 1) [] ≡ up (e - k) k
unfolding choose
entry_last f n zero e q h = entry_zero f n zero h ∙ up_none f (e - 0)
entry_last f zero (suc k) e q h = absurd (omega arith)
entry_last f (suc n) (suc k) e q h = go (dec_le (suc k) n) (entry_last (suc f) n (suc k) e (omega arith))
  where
    go : Dec (suc k ≤ n) → (suc k ≤ n → get_or (listing (suc f) n (suc k)) (choose n (suc k) - 1) [] ≡ up (e - suc k) (suc k))
        → get_or (listing f (suc n) (suc k)) (choose n k + choose n (suc k) - 1) [] ≡ up (e - suc k) (suc k)
    go (yes le) more =
        let i : choose n k + (choose n (suc k) - 1) ≡ choose n k + choose n (suc k) - 1 =
        omega (arith, choose_some n (suc k) le) in
        rw i at (entry_second f n k (choose n (suc k) - 1)) ∙ more le
    go (no gt) more =
        let kn : k ≡ n = omega arith in
        let one : choose n k ≡ 1 = rw kn (choose_self n) in
        let i : choose n k + choose n (suc k) - 1 ≡ 0 = omega (arith, choose_past n (suc k) (omega arith)) in
        let low : e - suc k ≡ f = omega arith in
        rw (i, low) (entry_zero f (suc n) (suc k) h)

-- ---- the set after

-- s and t stand one after another in the listing.
Follows : ℕ → ℕ → ℕ → List ℕ → List ℕ → Type 0
Follows f n k s t = (i : ℕ) × (suc i < choose n k) × (get_or (listing f n k) i [] ≡ s) × (get_or (listing f n k) (suc i) [] ≡ t)

module _ (f n k : ℕ) where
  follows_first : (s t : List ℕ) → Follows (suc f) n k s t → Follows f (suc n) (suc k) (f ∷ s) (f ∷ t)
  unfolding choose Follows
  follows_first s t (i, lt, es, et) =
      (i, omega arith, entry_first f n k i (omega arith) ∙ ap (λ l. f ∷ l) es, entry_first f n k (suc i) lt ∙ ap (λ l. f ∷ l) et)

  follows_second : (s t : List ℕ) → Follows (suc f) n (suc k) s t → Follows f (suc n) (suc k) s t
  unfolding choose Follows
  follows_second s t (i, lt, es, et) =
      let e : choose n k + suc i ≡ suc (choose n k + i) = omega arith in
      (choose n k + i, omega arith, entry_second f n k i ∙ es, rw e at (entry_second f n k (suc i)) ∙ et)

  -- From the last set with the first fold to the first set without it.
  follows_turn : (e : ℕ) → f + suc n ≡ e → suc k ≤ n → Follows f (suc n) (suc k) (f ∷ up (e - k) k) (up (suc f) (suc k))
  unfolding choose Follows
  follows_turn e q h =
      let some = choose_some n k (omega arith) in
      let more = choose_some n (suc k) h in
      let at : choose n k + 0 ≡ suc (choose n k - 1) = omega arith in (
        choose n k - 1,
        omega arith,
        entry_first f n k (choose n k - 1) (omega arith) ∙ ap (λ l. f ∷ l) (entry_last (suc f) n k e (omega arith) (omega arith)),
        rw at at (entry_second f n k 0) ∙ entry_zero (suc f) n (suc k) h,
      )

-- p, then a, then the m highest folds: where a can rise, p, then m + 1 folds from a + 1 on comes next.
follows_rise : (f n k e a m : ℕ) (p : List ℕ) → f + n ≡ e → Rises f e (p ++ a ∷ up (e - m) m) → length p + suc m ≡ k → a + suc m < e
    → Follows f n k (p ++ a ∷ up (e - m) m) (p ++ up (suc a) (suc m))
follows_rise f zero k e a m [] q r long lt = absurd (omega arith)
follows_rise f zero k e a m (b ∷ p) q r long lt = absurd (omega arith)
follows_rise f (suc n) zero e a m p q r long lt = absurd (omega arith)
follows_rise f (suc n) (suc k) e a m [] q r long lt =
    go (ℕ_discrete f a) (λ less. follows_rise (suc f) n (suc k) e a m [] (omega arith) (less, r.1, r.2) long lt)
  where
    go : Dec (f ≡ a) → (f < a → Follows (suc f) n (suc k) (a ∷ up (e - m) m) (up (suc a) (suc m)))
        → Follows f (suc n) (suc k) (a ∷ up (e - m) m) (up (suc a) (suc m))
    go (yes here) more =
        let mk : k ≡ m = omega arith in
        rw (← here, ← mk) (follows_turn f n k e q (omega arith))
    go (no ne) more = follows_second f n k (a ∷ up (e - m) m) (up (suc a) (suc m)) (more (omega arith))
follows_rise f (suc n) (suc k) e a m (b ∷ p) q r long lt =
    go (ℕ_discrete f b)
    (follows_rise (suc f) n k e a m p (omega arith) (rises_lower (suc f) (suc b) e (p ++ a ∷ up (e - m) m) (omega arith) r.2) (omega arith) lt)
    (λ less. follows_rise (suc f) n (suc k) e a m (b ∷ p) (omega arith) (less, r.1, r.2) long lt)
  where
    s : List ℕ
    s = p ++ a ∷ up (e - m) m

    t : List ℕ
    t = p ++ up (suc a) (suc m)

    go : Dec (f ≡ b) → Follows (suc f) n k s t → (f < b → Follows (suc f) n (suc k) (b ∷ s) (b ∷ t)) → Follows f (suc n) (suc k) (b ∷ s) (b ∷ t)
    go (yes here) x y = rw (← here) (follows_first f n k s t x)
    go (no ne) x y = follows_second f n k (b ∷ s) (b ∷ t) (y (omega arith))

-- ---- the turn

rises_reach : (f e i : ℕ) (s : List ℕ) → Rises f e s → i < length s → get_or s i 0 + (length s - i) ≤ e
rises_reach f e i [] r h = absurd (omega arith)
rises_reach f e zero (a ∷ s) r h = omega (arith, rises_room (suc a) e s r.2 r.1)
rises_reach f e (suc i) (a ∷ s) r h = omega (arith, rises_reach (suc a) e i s r.2 (omega arith))

module _ (n k : ℕ) (s : List ℕ) (split : is_split n k s ≡ true) where
  pub split_long : length s ≡ k
  split_long = (is_split_rises n k s split).1

  pub split_room : k ≤ n
  split_room = omega (arith, rises_room 0 n s (is_split_rises n k s split).0 zero-le, split_long)

  -- No fold is so high that those behind it have no room.
  pub split_reach : (i : ℕ) → i < k → get_or s i 0 + (k - i) ≤ n
  split_reach i h =
      rw (← split_long) (rises_reach 0 n i s (is_split_rises n k s split).0 (rw split_long h))

  pub highest_start : Highest n s k
  unfolding up
  highest_start =
      let z : k - k ≡ 0 = omega arith in
      record { place = omega (arith, split_long); folds = rw (split_long, z, ← split_long) (drop-length s) }

  highest_step : (j : ℕ) → Highest n s (suc j) → n ≤ get_or s j 0 + 1 + (k - suc j) → Highest n s j
  unfolding up
  highest_step j w high =
      let long = split_long in
      let reach = split_reach j (omega arith) in
      let more : length s - j ≡ suc (length s - suc j) = omega arith in
      let here : n - (length s - j) ≡ get_or s j 0 = omega arith in
      let behind : n - (length s - suc j) ≡ suc (get_or s j 0) = omega arith in
      record { place = omega arith; folds = drop-cons s j 0 w.place ∙ rw (w.folds, here, more, behind) }

  pub highest_more : (i : ℕ) → Highest n s i → 0 < i → n ≤ get_or s (i - 1) 0 + 1 + (k - i) → Highest n s (i - 1)
  highest_more i w some high =
      let e : suc (i - 1) ≡ i = omega arith in
      highest_step (i - 1) (rw e w) (rw e high)

  -- ---- the answer

  pub next_last : Highest n s 0 → next_folds n k s ≡ None
  next_last w =
      let z : length s - 0 ≡ k = omega (arith, split_long) in
      let there : get_or (listing 0 n k) (choose n k - 1) [] ≡ s =
      entry_last 0 n k n (omega arith) split_room ∙ sym (rw z at w.folds) in
      let some = choose_some n k split_room in
      rw (
        place_of-entry n k (choose n k - 1) s (omega arith) there,
        le-ltb (choose n k - 1 + 1) (choose n k) (omega arith),
      )

  follows_next : (t : List ℕ) → Follows 0 n k s t → next_folds n k s ≡ Some (handed t)
  unfolding Follows
  follows_next t (i, lt, es, et) =
      rw (place_of-entry n k i s (omega arith) es, lt-ltb (i + 1) (choose n k) (omega arith), add-one i, et)

  next_step : (j : ℕ) → Highest n s (suc j) → get_or s j 0 + 1 + (length s - suc j) < n
      → Follows 0 n k s (take j s ++ up (suc (get_or s j 0)) (suc (length s - suc j)))
  next_step j w rise =
      let m = length s - suc j in
      let parts : s ≡ take j s ++ get_or s j 0 ∷ up (n - m) m = split_at s j 0 w.place ∙ rw w.folds in
      let up_to : Rises 0 n (take j s ++ get_or s j 0 ∷ up (n - m) m) = rw parts at (is_split_rises n k s split).0 in
      let long : length (take j s) + suc m ≡ k = omega (arith, length-take-le j s (omega arith), split_long) in
      subst (λ l. Follows 0 n k l (take j s ++ up (suc (get_or s j 0)) (suc m))) (sym parts)
      (follows_rise 0 n k n (get_or s j 0) m (take j s) (omega arith) up_to long (omega arith))

  pub next_after : (r : ℕ) → Turn n s r → 0 < r
      → next_folds n k s ≡ Some (handed (take (r - 1) s ++ up (get_or s (r - 1) 0 + 1) (k + 1 - r)))
  next_after r w some =
      let e : suc (r - 1) ≡ r = omega arith in
      let m : suc (length s - suc (r - 1)) ≡ k + 1 - r = omega (arith, split_long, w.from.place) in
      let a : suc (get_or s (r - 1) 0) ≡ get_or s (r - 1) 0 + 1 = omega arith in
      let f = next_step (r - 1) (rw e w.from) (rw e (w.rises some)) in
      follows_next (take (r - 1) s ++ up (get_or s (r - 1) 0 + 1) (k + 1 - r)) (rw (m, a) at f)

-- The fold at place i, as the code reads it, is the list's, and those from it on have room.
pub fold_at : (b : FoldSet) (n k i : ℕ) → is_split n k (list_of b) ≡ true → i < k
    → (get_or (list_of b) i 0 ≡ (get_or b.folds i (record { 0 = 0 })).0)
    × ((get_or b.folds i (record { 0 = 0 })).0 + (k - i) ≤ n)
    × (k ≤ n)
fold_at b n k i split lt =
    let s = list_of b in
    let e = list_of_at b i (omega (arith, split_long n k s split)) in
    (e, omega (arith, split_reach n k s split i lt), split_room n k s split)

-- Where a fold can rise: its place, and the room for it and those behind it.
pub turn_room : (b : FoldSet) (n k i : ℕ) → n ≤ 64 → is_split n k (list_of b) ≡ true → Turn n (list_of b) (i + 1)
    → (i < k) × (k ≤ 64) × (k ≡ length (list_of b)) × ((get_or b.folds i (record { 0 = 0 })).0 + 1 + (k - i) ≤ n)
turn_room b n k i few split turn =
    let long = split_long n k (list_of b) split in
    let place = turn.from.place in
    let a = fold_at b n k i split (omega arith) in
    let e : i + 1 - 1 ≡ i = omega arith in
    (omega arith, omega arith, omega arith, omega (arith, rw e at (turn.rises (omega arith)), a.0))

-- The set, copied up to the fold that rises, and those that follow it.
pub run_more : (b : FoldSet) (out r : FoldSet) (first fold : ℕ) → first ≤ fold → out ≡ handed (list_of b ++ up first (fold - first))
    → r ≡ handed (list_of out ++ fold ∷ []) → r ≡ handed (list_of b ++ up first (fold + 1 - first))
run_more b out r first fold le e er =
    let i = fold - first in
    let at : fold ≡ first + i = omega arith in
    let more : fold + 1 - first ≡ i + 1 = omega arith in
    let l : list_of out ≡ list_of b ++ up first i = ap list_of e ∙ list_of-handed (list_of b ++ up first i) in
    er ∙ rw (more, l, up_more, ← at, append_assoc)

pub run_start : (b : FoldSet) (first : ℕ) → Tidy b → b ≡ handed (list_of b ++ up first 0)
unfolding up
run_start b first e = rw (append-nil (list_of b)) e

pub run_count : (b out : FoldSet) (first i : ℕ) → Tidy b → out ≡ handed (list_of b ++ up first i) → out.count ≡ b.count + i
run_count b out first i t e =
    omega (arith, handed-count (list_of b ++ up first i) e, length-append (list_of b) (up first i), length_up first i, handed-count (list_of b) t)

-- The answer that is put together so is the set after.
pub next_made : (b : FoldSet) (n k i : ℕ) (t m : FoldSet) → is_split n k (list_of b) ≡ true → Turn n (list_of b) (i + 1)
    → t ≡ handed (take i (list_of b))
    → m ≡ handed (list_of t ++ up ((get_or b.folds i (record { 0 = 0 })).0 + 1) (k - i))
    → Some m ≡ next_folds n k (list_of b)
next_made b n k i t m split w et em =
    let s = list_of b in
    let long = split_long n k s split in
    let l : list_of t ≡ take i s = ap list_of et ∙ list_of-handed (take i s) in
    let a = fold_at b n k i split (omega (arith, w.from.place)) in
    let e : i + 1 - 1 ≡ i = omega arith in
    let d : k + 1 - (i + 1) ≡ k - i = omega arith in
    rw (em, l, ← a.0) (sym (rw (e, d) at (next_after n k s split (i + 1) w (omega arith))))
