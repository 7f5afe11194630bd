-- What misses a hull overlaps none of its rows (Hull).
use Rattle.std.specs.Prelude.{◌≡◌, false, ℕ}
use Rattle.lists.specs.Base.{any_from}
use Rattle.lists.specs.AnyLaws.{if_not, any_from_some}
use Rattle.paper.specs.declared.span.Span.{Span}
use Rattle.paper.specs.Spans.{Table, overlaps}
use Rattle.paper.specs.Folds.{Rows}
use Rattle.paper.specs.Marks.{meets}
use Rattle.paper.proofs.Times.{earliest_bound, latest_bound}
use Rattle.laws.specs.SpanLaws.{overlaps_wider, meets_held}
use Rattle.laws.specs.Hull.{hull, meets_hull}

-- Of any rows b up to e: what misses their hull overlaps none of them.
pub hull_misses :
    (T : Table) (a : Span) (b e : ℕ) → overlaps T a (hull T b e) ≡ false →
    any_from (λ r. overlaps T a (T.span r)) b e ≡ false
hull_misses T a b e =
    if_not
    (λ h.
    let r = any_from_some (λ r. overlaps T a (T.span r)) b e h in
    overlaps_wider T a (T.span r.0) (hull T b e) (earliest_bound T b e r.0 r.1 r.2) (latest_bound T b e r.0 r.1 r.2) r.3)

-- Of the blocks: a row that overlaps no block's hull meets no test row.
pub meets_hull_lem : (T : Table) (t : Rows) (i : ℕ) → meets_hull T t i ≡ false → meets T t i ≡ false
meets_hull_lem T t i =
    if_not
    (meets_held (record { from = λ b j g h l. earliest_bound T b _ j g h; to = λ b j g h. latest_bound T b _ j g h }) i)
