-- Laws of overlap. The first three are all that the theorems on the two rules know of times; the last carries the first of
-- them from one test row to the blocks.
use Rattle.std.specs.Prelude.{◌≡◌, true, ◌&&◌, ℕ, ◌≤◌, ◌<◌}
use Rattle.std.proofs.Common.{arith}
use Rattle.lists.specs.Base.{any}
use Rattle.lists.specs.AnyLaws.{both, any_here, any_some}
use Rattle.paper.specs.declared.span.Span.{Span}
use Rattle.paper.specs.Spans.{Table, reaches, overlaps, good}
use Rattle.paper.specs.Folds.{Rows}
use Rattle.paper.specs.Blocks.{begins, past}
use Rattle.paper.specs.Marks.{meets}
use Rattle.paper.proofs.Times.{◌⊑◌, reaches_later, reaches-earlier}
use Rattle.paper.proofs.BlocksMeaning.{past_le, block_of}

-- a is the row's span, b a test row's, w a wider span that stands for several test rows.
module _ (T : Table) (a b w : Span) where
  -- What overlaps b overlaps every span that holds b.
  pub overlaps_wider : w.start ⊑ b.start → b.end ⊑ w.end → overlaps T a b ≡ true → overlaps T a w ≡ true
  overlaps_wider from to h =
      let t = both {a = reaches a.start b.end} h in
      rw (reaches_later a.start to t.0, reaches-earlier a.end from t.1)

  -- What overlaps w and starts no later than b overlaps b, if w begins where b begins.
  pub overlaps_first : w.start ≡ b.start → a.start ⊑ b.start → good T b ≡ true → overlaps T a w ≡ true → overlaps T a b ≡ true
  overlaps_first same before g h =
      let t = both {a = reaches a.start w.end} h in
      rw (reaches-earlier b.end before g, rw same at t.1)

  -- What overlaps w and starts no earlier than b overlaps b, if w ends where b ends.
  pub overlaps_last : w.end ≡ b.end → b.start ⊑ a.start → good T a ≡ true → overlaps T a w ≡ true → overlaps T a b ≡ true
  overlaps_last same behind g h =
      let t = both {a = reaches a.start w.end} h in
      rw (rw same at t.0, reaches-earlier a.end behind g)

-- A span for each block, known by its first row b, that holds the spans of the block's rows j.
pub record Holds (T : Table) (t : Rows) (w : ℕ → Span) : Type 0 where
  pub from :
      (b j : ℕ) → b ≤ j → j < past T.rows t b → past T.rows t b ≤ T.rows → (w b).start ⊑ (T.span j).start
  pub to : (b j : ℕ) → b ≤ j → j < past T.rows t b → (T.span j).end ⊑ (w b).end

-- A row that meets a test row overlaps the span held for that row's block.
pub meets_held :
    {T : Table} {t : Rows} {w : ℕ → Span} → Holds T t w → (i : ℕ) → meets T t i ≡ true →
    any (λ b. begins t b && overlaps T (T.span i) (w b)) T.rows ≡ true
meets_held {T} {t} {w} holds i h =
    let m = any_some (λ j. t j && overlaps T (T.span i) (T.span j)) T.rows h in
    let e = both {a = t m.0} m.2 in
    let k = block_of T.rows t m.0 m.1 e.0 in
    any_here _ T.rows k.0 (omega arith)
    (rw (
      k.2,
      overlaps_wider T (T.span i) (T.span m.0) (w k.0)
          (holds.from k.0 m.0 k.1 k.3 (past_le T.rows t k.0 (omega arith)))
          (holds.to k.0 m.0 k.1 k.3)
          e.1,
    ))
