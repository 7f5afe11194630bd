-- Starts are in order just where none falls.
use mathlib.Core.Path.{◌≡◌, sym, ap, ◌∙◌}
use mathlib.Core.Bool.{Bool, true, false, not, not-not}
use mathlib.Core.List.{List, []}
use Prim.Native.Nat.{◌+◌, ◌-◌}
use native.Mathlib.Omega.{arith}
use lib.IntN.{ℤ, pos}
use lib.Signed.{lt_z, le_z}
use lib.ListN.{length, get_or}
use Rattle.std.specs.List.{IsAllAdjacentAnswer}
use Rattle.lists.specs.AnyLaws.{any_here, any_none}
use Rattle.paper.specs.Spans.{reaches, table}
use Rattle.paper.proofs.SpansMeaning.{good_is}
use Rattle.scans.specs.Falls.{is_fall, starts_fall}

-- The test of the code, by the one of the paper: what makes a span good.
in_order : (x y : ℤ) → le_z x y ≡ not (lt_z y x)
unfolding reaches
in_order x y = good_is (table [] []) (record { start = x; end = y })

-- What `is_sorted_by` finds, negated.
pub fall_found : (starts : List ℤ) (r : Bool) → IsAllAdjacentAnswer (λ x y b. b ≡ le_z x y) starts r → not r ≡ starts_fall starts
fall_found starts false h =
    sym
    (any_here (is_fall starts) (length starts - 1) h.0 (omega (arith, h.1))
    (sym (not-not (is_fall starts h.0)) ∙ ap not (sym (in_order (get_or starts h.0 (pos 0)) (get_or starts (h.0 + 1) (pos 0))) ∙ sym (h.2 (pos 0)))))
fall_found starts true h =
    sym
    (any_none (is_fall starts) (length starts - 1)
    (λ i l. sym (not-not (is_fall starts i)) ∙ ap not (sym (in_order (get_or starts i (pos 0)) (get_or starts (i + 1) (pos 0))) ∙ sym (h i (pos 0) (omega arith)))))
