-- The first span that ends before its start: along the two lists, and by its row.
use mathlib.Core.Path.{◌≡◌, refl, sym, ap, ◌∙◌}
use mathlib.Core.Bool.{Bool, true, false, not, not-not}
use mathlib.Core.List.{List, [], ◌∷◌}
use Prim.Native.Nat.{ℕ, suc, ◌+◌}
use native.Mathlib.Nat.{add-zero, zero-add}
use native.Mathlib.Omega.{arith}
use lib.IntN.{ℤ, pos}
use lib.Signed.{lt_z}
use lib.ListN.{length, get_or}
use Rattle.std.specs.List.{zip, position_or_len, position}
use Rattle.std.proofs.lemmas.Slice.Zip.{length-zip}
use Rattle.lists.specs.Base.{first_from}
use Rattle.paper.specs.Spans.{table}
use Rattle.paper.proofs.SpansMeaning.{good_is}
use Rattle.scans.specs.FirstBackward.{is_backward, first_backward, backward_found}

-- A span that ends before its start.
abbrev pub back : ℤ × ℤ → Bool
back s = lt_z s.1 s.0

first_back : (p : ℕ → Bool) (b : ℕ) (starts ends : List ℤ) → length starts ≡ length ends
    → ((i : ℕ) → p (b + i) ≡ lt_z (get_or ends i (pos 0)) (get_or starts i (pos 0)))
    → first_from p b (length starts) ≡ b + position_or_len back (zip starts ends)
unfolding first_from
first_back p b [] ends e h = sym (add-zero b)
first_back p b (s ∷ starts) [] e h = absurd (omega arith)
first_back p b (s ∷ starts) (t ∷ ends) e h =
    go (lt_z t s) refl (first_back p (suc b) starts ends (omega arith) (λ i. let d : b + suc i ≡ suc b + i = omega arith in rw d at (h (suc i))))
  where
    here : p b ≡ lt_z t s
    here = rw (add-zero b) at (h 0)

    go : (v : Bool) → lt_z t s ≡ v → first_from p (suc b) (length starts) ≡ suc b + position_or_len back (zip starts ends)
        → first_from p b (suc (length starts)) ≡ b + position_or_len back ((s, t) ∷ zip starts ends)
    go true k more = rw (here, k) (sym (add-zero b))
    go false k more = rw (here, k) (more ∙ omega arith)

-- The code's test is the negation of the paper's.
backward_is : (starts ends : List ℤ) (i : ℕ) → is_backward starts ends i ≡ lt_z (get_or ends i (pos 0)) (get_or starts i (pos 0))
backward_is starts ends i =
    let T = table starts ends in
    ap not (good_is T (T.span i)) ∙ not-not (lt_z (get_or ends i (pos 0)) (get_or starts i (pos 0)))

pub found_back : (starts ends : List ℤ) → length starts ≡ length ends → position back (zip starts ends) ≡ backward_found starts ends
found_back starts ends e =
    let all : length (zip starts ends) ≡ length starts = omega (arith, length-zip starts ends) in
    let at : first_backward starts ends ≡ position_or_len back (zip starts ends) =
    first_back (is_backward starts ends) 0 starts ends e (λ i. rw (zero-add i) (backward_is starts ends i)) ∙ zero-add (position_or_len back (zip starts ends)) in
    rw (all, ← at)
