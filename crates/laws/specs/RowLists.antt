-- The rows with a property as a list, in row order: what the overlap count is asked about.
use Rattle.std.specs.Prelude.{◌≡◌, refl, Bool, true, false, ◌&&◌, List, [], ◌∷◌, ◌++◌, ℕ, zero, suc, ◌+◌, ◌<◌, length, get_or}
use Rattle.std.proofs.Common.{ap, ◌∙◌, arith, length-append}
use Rattle.std.proofs.Math.Decide.{dec_lt}
use Rattle.std.proofs.Math.ListN.{get_or-append}
use Rattle.std.proofs.lemmas.List.{get_or_at}
use Rattle.lists.specs.Base.{bit, count}
use Rattle.lists.specs.AnyLaws.{any_none, any_each}
use Rattle.lists.specs.CountLaws.{count_none}
use Rattle.paper.specs.Spans.{Table, overlaps}
use Rattle.paper.specs.Folds.{Rows}
use Rattle.paper.specs.Marks.{meets}
use Rattle.paper.specs.Overlaps.{leaks, overlap_count}

-- Row n where the answer is yes.
abbrev pub only : Bool → ℕ → List ℕ
only true n = n ∷ []
only false n = []

-- The rows below n that are in p.
unfoldable pub rows_of : Rows → ℕ → List ℕ
rows_of p zero = []
rows_of p (suc n) = rows_of p n ++ only (p n) n

-- None is missing, and they stand in row order: row i has as many before it in the list as there are such rows before it.
pub rows_of-length : (p : Rows) (n : ℕ) → length (rows_of p n) ≡ count p n
unfolding rows_of count
rows_of-length p zero = refl
rows_of-length p (suc n) = rw (length-append, rows_of-length p n) (ap (λ x. count p n + x) (go (p n)))
  where
    go : (b : Bool) → length (only b n) ≡ bit b
    go true = refl
    go false = refl

pub rows_of_place :
    (p : Rows) (n i : ℕ) → i < n → p i ≡ true → (count p i < length (rows_of p n)) × (get_or (rows_of p n) (count p i) 0 ≡ i)
unfolding rows_of
rows_of_place p zero i h e = absurd (omega arith)
rows_of_place p (suc n) i h e = go (dec_lt i n) (rows_of_place p n i)
  where
    go :
        Dec (i < n) →
        (i < n → p i ≡ true → (count p i < length (rows_of p n)) × (get_or (rows_of p n) (count p i) 0 ≡ i)) →
        (count p i < length (rows_of p n ++ only (p n) n)) × (get_or (rows_of p n ++ only (p n) n) (count p i) 0 ≡ i)
    go (yes l) ih =
        let r = ih l e in
        (rw length-append (omega (arith, r.0)), get_or-append (rows_of p n) (only (p n) n) 0 (count p i) r.0 ∙ r.1)
    go (no g) ih =
        let z : n ≡ i = omega arith in
        let y : p n ≡ true = rw z e in
        let x : length (rows_of p n) ≡ count p i = rows_of-length p n ∙ ap (count p) z in
        rw y (rw length-append (omega arith), get_or_at (rows_of p n) n [] 0 (count p i) x ∙ z)

-- Each entry is such a row.
pub rows_of_each :
    (p : Rows) (n i : ℕ) → i < length (rows_of p n) → (get_or (rows_of p n) i 0 < n) × (p (get_or (rows_of p n) i 0) ≡ true)
unfolding rows_of
rows_of_each p zero i h = absurd (omega arith)
rows_of_each p (suc n) i h = go (p n) refl (dec_lt i (length (rows_of p n))) (rows_of_each p n i) h
  where
    go :
        (b : Bool) → p n ≡ b → Dec (i < length (rows_of p n)) →
        (i < length (rows_of p n) → (get_or (rows_of p n) i 0 < n) × (p (get_or (rows_of p n) i 0) ≡ true)) →
        i < length (rows_of p n ++ only b n) →
        (get_or (rows_of p n ++ only b n) i 0 < suc n) × (p (get_or (rows_of p n ++ only b n) i 0) ≡ true)
    go b e (yes l) ih k =
        let r = ih l in
        rw (get_or-append (rows_of p n) (only b n) 0 i l) (omega (arith, r.0), r.1)
    go true e (no g) ih k =
        let z : length (rows_of p n) ≡ i = omega (arith, rw length-append at k) in
        rw (get_or_at (rows_of p n) n [] 0 i z) (omega arith, e)
    go false e (no g) ih k = absurd (g (omega (arith, rw length-append at k)))

-- Rows that meet no test row: their list has overlap count 0 against the list of the test rows.
pub overlap_count_none :
    (T : Table) (p t : Rows) → ((i : ℕ) → i < T.rows → p i ≡ true → meets T t i ≡ false) →
    overlap_count T (rows_of p T.rows) (rows_of t T.rows) ≡ 0
overlap_count_none T p t free =
    count_none (leaks T (rows_of p T.rows) (rows_of t T.rows)) (length (rows_of p T.rows))
    (λ i h. any_none _ (length (rows_of t T.rows)) (λ j k. one _ _ (rows_of_each p T.rows i h) (rows_of_each t T.rows j k)))
  where
    one :
        (r s : ℕ) → (r < T.rows) × (p r ≡ true) → (s < T.rows) × (t s ≡ true) →
        overlaps T (T.span r) (T.span s) ≡ false
    one r s x y =
        rw y.1 at
        (any_each (λ j. t j && overlaps T (T.span r) (T.span j)) T.rows s (free r x.0 x.1) y.0)
