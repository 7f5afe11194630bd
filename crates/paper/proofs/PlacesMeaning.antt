-- What `place_of` means: the number of a split is the one place where the listing has it.
use mathlib.Core.Path.{◌≡◌, refl, sym, ap₂, ◌∙◌}
use mathlib.Core.Bool.{Bool, true, false, and-eq-true_iff}
use mathlib.Core.List.{List, [], ◌∷◌}
use Prim.Native.Nat.{ℕ, ◌<◌, zero-le}
use native.Mathlib.Omega.{arith}
use borrow.Author.Tests.{eqb-true, eq-eqb}
use lib.Dec.{eqb}
use Rattle.lists.specs.FirstLaws.{first_from_at}
use Rattle.paper.specs.Sets.{choose, entry, is_split}
use Rattle.paper.specs.Places.{same, place_of}
use Rattle.paper.proofs.ListingMeaning.{is_split_listed, entry_once}

pub same_refl : (s : List ℕ) → same s s ≡ true
unfolding same
same_refl [] = refl
same_refl (a ∷ s) = rw (eq-eqb a a refl) (same_refl s)

pub same_is : (s t : List ℕ) → same s t ≡ true → s ≡ t
unfolding same
same_is [] [] h = refl
same_is [] (b ∷ t) h = absurd (let z : ◌≡◌ {A = ℕ} 0 1 = cc in omega arith)
same_is (a ∷ s) [] h = absurd (let z : ◌≡◌ {A = ℕ} 0 1 = cc in omega arith)
same_is (a ∷ s) (b ∷ t) h =
    let p = (and-eq-true_iff (eqb a b) (same s t)).0 h in
    ap₂ ◌∷◌ (eqb-true a b p.0) (same_is s t p.1)

fails : (b : Bool) → (b ≡ true → ⊥) → b ≡ false
fails true h = absurd (h refl)
fails false h = refl

-- Entry i has the number i ..
pub place_of-entry : (N k i : ℕ) (s : List ℕ) → i < choose N k → entry N k i ≡ s → place_of N k s ≡ i
place_of-entry N k i s h e =
    first_from_at (λ j. same (entry N k j) s) 0 (choose N k) i zero-le (omega arith)
    (rw e (same_refl s))
    (λ j ge lt. fails (same (entry N k j) s) (λ t. omega (arith, entry_once N k j i (omega arith) h (same_is (entry N k j) s t ∙ sym e))))

-- .. and every split stands in the listing at its number.
pub place_of_listed : (N k : ℕ) (s : List ℕ) → is_split N k s ≡ true → (place_of N k s < choose N k) × (entry N k (place_of N k s) ≡ s)
place_of_listed N k s h =
    let l = is_split_listed N k s h in
    rw (place_of-entry N k l.0 s l.1 l.2) (l.1, l.2)
