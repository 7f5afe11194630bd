-- One step down the remaining folds, for numbering and for the way back: into the part with the first fold, or past it.
-- Each law is stated over the step's numbers m and j, one less than n and k.
use mathlib.Core.Path.{◌≡◌, refl, sym, ap, ◌∙◌}
use mathlib.Core.Logic.{◌≢◌}
use mathlib.Core.List.{List, [], ◌∷◌, ◌++◌, append_assoc, append-nil}
use mathlib.Core.Bool.{true}
use Prim.Native.Nat.{ℕ, suc, ◌+◌, ◌-◌, ◌≤◌, ◌<◌, ◌^◌, zero-le}
use native.Mathlib.Omega.{arith}
use native.Mathlib.Numerals.{add-one}
use lib.ListN.{length, get_or, drop, length-append, length-drop}
use lib.Seq.{drop-cons, drop-length}
use Rattle.paper.specs.declared.numbers.FoldSet.{FoldSet}
use Rattle.paper.specs.Sets.{choose, listing, is_split}
use Rattle.paper.specs.Handed.{handed, list_of}
use Rattle.paper.specs.Places.{place_of}
use Rattle.paper.proofs.Listing.{choose_room, entry_first, entry_second}
use Rattle.paper.proofs.ListingMeaning.{Rises, is_split_rises}
use Rattle.paper.proofs.PlacesMeaning.{place_of-entry}
use Rattle.sets.specs.Work.{Rest, Tail, Place}
use Rattle.sets.proofs.TableLaws.{choose-fits}
use Rattle.sets.proofs.HandedLaws.{list_of-handed, handed_tidy, list_of_at}

-- ---- numbering

pub rest_some : {b : FoldSet} {f n k i : ℕ} → Rest b f n k i → k ≤ n
rest_some {n} {k} {i} w = choose_room n k i w.within

pub rest_end : {b : FoldSet} {f n k i : ℕ} → Rest b f n k i → k ≡ 0 → b ≡ handed (list_of b ++ get_or (listing f n k) i [])
unfolding choose listing
rest_end {b} {f} {n} {k} {i} w e =
    let lt : i < choose n 0 = rw e at w.within in
    let z : i ≡ 0 = omega arith in
    rw (e, z, append-nil (list_of b)) w.tidy

module _ {b : FoldSet} {f n k i : ℕ} (w : Rest b f n k i) (m j : ℕ) (em : n ≡ suc m) (ej : k ≡ suc j) where
  pub rest_first : (t : FoldSet) → t ≡ handed (list_of b ++ f ∷ []) → i < choose m j → Rest t (f + 1) m j i
  rest_first t e lt = record {
    tidy = handed_tidy (list_of b ++ f ∷ []) e;
    room = omega (arith, ap (λ x. x.count) e, length-append (list_of b) (f ∷ []), ap (λ x. x.count) w.tidy);
    small = omega arith;
    within = lt;
  }

  pub rest_firsts : (t r : FoldSet) → t ≡ handed (list_of b ++ f ∷ []) → i < choose m j
      → r ≡ handed (list_of t ++ get_or (listing (f + 1) m j) i []) → r ≡ handed (list_of b ++ get_or (listing f n k) i [])
  rest_firsts t r e lt er =
      let l : list_of t ≡ list_of b ++ f ∷ [] = ap list_of e ∙ list_of-handed (list_of b ++ f ∷ []) in
      er ∙ rw (l, add-one f, em, ej, entry_first f m j i lt, append_assoc)

  pub rest_second : (c : ℕ) → c ≡ choose m j → c ≤ i → Rest b (f + 1) m k (i - c)
  unfolding choose
  rest_second c e le = record {
    tidy = w.tidy;
    room = w.room;
    small = omega arith;
    within = let h : i < choose (suc m) (suc j) = rw (em, ej) at w.within in rw ej (omega arith);
  }

  pub rest_seconds : (c : ℕ) (r : FoldSet) → c ≡ choose m j → c ≤ i
      → r ≡ handed (list_of b ++ get_or (listing (f + 1) m k) (i - c) []) → r ≡ handed (list_of b ++ get_or (listing f n k) i [])
  rest_seconds c r e le er =
      let s : choose m j + (i - c) ≡ i = omega arith in
      er ∙ ap (λ l. handed (list_of b ++ l)) (rw (add-one f, em, ej) (sym (rw s at (entry_second f m j (i - c)))))

-- ---- the way back

pub place_none : (f n : ℕ) → Place [] f n 0
unfolding choose listing
place_none f n = record { within = omega arith; there = refl }

pub place_fits : {f n r : ℕ} (s : List ℕ) → Place s f n r → n ≤ 64 → r < 2 ^ 64
place_fits {f} {n} s p h = omega (arith, p.within, choose-fits n (length s) h)

pub place_first : (f m r : ℕ) (s : List ℕ) → Place s (suc f) m r → Place (f ∷ s) f (suc m) r
unfolding choose
place_first f m r s p = record { within = omega arith; there = entry_first f m (length s) r p.within ∙ ap (λ l. f ∷ l) p.there }

pub place_second : (f m r a : ℕ) (s : List ℕ) → Place (a ∷ s) (suc f) m r → Place (a ∷ s) f (suc m) (choose m (length s) + r)
unfolding choose
place_second f m r a s p = record { within = omega arith; there = entry_second f m (length s) r ∙ p.there }

-- A list that rises within n folds is no longer than n.
pub rises_room : (f e : ℕ) (s : List ℕ) → Rises f e s → f ≤ e → length s + f ≤ e
rises_room f e [] r h = omega arith
rises_room f e (a ∷ s) r h = omega (arith, rises_room (suc a) e s r.2 r.1)

module _ {b : FoldSet} {k i f n : ℕ} (w : Tail b k i f n) where
  pub tail_end : i ≡ k → Place (drop i (list_of b)) f n 0
  tail_end e =
      let h : i ≡ length (list_of b) = omega arith in
      rw (h, drop-length) (place_none f n)

  module _ (ne : i ≢ k) where
    -- The fold that stands at the place, as the code reads it.
    abbrev here : ℕ
    here = (get_or b.folds i (record { 0 = 0 })).0

    pub tail_cons : drop i (list_of b) ≡ here ∷ drop (suc i) (list_of b)
    tail_cons =
        let h : i < length (list_of b) = omega arith in
        rw (← list_of_at b i h) (drop-cons (list_of b) i 0 h)

    pub tail_rises : (f ≤ here) × (here < f + n) × Rises (suc here) (f + n) (drop (suc i) (list_of b))
    tail_rises = rw tail_cons at w.rises

    pub tail_some : 0 < n
    tail_some = let r = tail_rises in omega arith

    tail_length : length (drop (suc i) (list_of b)) ≡ k - i - 1
    tail_length = omega (arith, length-drop (suc i) (list_of b))

    module _ (m : ℕ) (em : n ≡ suc m) where
      ends : suc f + m ≡ f + n
      ends = omega arith

      pub tail_first : here ≡ f → Tail b k (i + 1) (f + 1) m
      tail_first e = record {
        long = w.long;
        few = w.few;
        place = omega arith;
        small = omega arith;
        rises = rw (add-one i, add-one f, ends) (rw e at tail_rises.2);
      }

      pub tail_firsts : here ≡ f → (r : ℕ) → Place (drop (i + 1) (list_of b)) (f + 1) m r → Place (drop i (list_of b)) f n r
      tail_firsts e r p = rw (tail_cons, e, em) (place_first f m r (drop (suc i) (list_of b)) (rw (add-one i, add-one f) at p))

      pub tail_second : here ≢ f → Tail b k i (f + 1) m
      tail_second d =
          let t = tail_rises in
          record {
            long = w.long;
            few = w.few;
            place = w.place;
            small = omega arith;
            rises = rw (add-one f, tail_cons, ends) (omega arith, t.1, t.2);
          }

      pub tail_seconds : (c r : ℕ) → c ≡ choose m (k - i - 1) → Place (drop i (list_of b)) (f + 1) m r → Place (drop i (list_of b)) f n (c + r)
      tail_seconds c r e p =
          rw (e, ← tail_length, tail_cons, em) (place_second f m r here (drop (suc i) (list_of b)) (rw (add-one f, tail_cons) at p))

pub tail_start : (b : FoldSet) (n k : ℕ) → n ≤ 64 → is_split n k (list_of b) ≡ true → Tail b k 0 0 n
tail_start b n k h s =
    let r = is_split_rises n k (list_of b) s in
    let e : 0 + n ≡ n = omega arith in
    let room = rises_room 0 n (list_of b) r.0 zero-le in
    record { long = r.1; few = omega arith; place = omega arith; small = omega arith; rises = rw e r.0 }

pub place_number : (b : FoldSet) (n k r : ℕ) → is_split n k (list_of b) ≡ true → Place (list_of b) 0 n r → r ≡ place_of n k (list_of b)
place_number b n k r s p =
    let long = (is_split_rises n k (list_of b) s).1 in
    sym (place_of-entry n k r (list_of b) (rw long at p.within) (rw long at p.there))
