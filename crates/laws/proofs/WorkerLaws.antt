-- A row's mark as searches over ranges, for what is held of those that begin a block (Worker).
use Rattle.std.specs.Prelude.{◌≡◌, refl, Bool, true, false, ◌&&◌, ℕ, ◌+◌, ◌<◌}
use Rattle.std.proofs.Common.{sym, ◌∙◌}
use Rattle.std.proofs.Math.Path.{ap}
use Rattle.lists.specs.Base.{any, any_from}
use Rattle.lists.specs.AnyLaws.{any_ext, and_ext}
use Rattle.paper.specs.declared.span.Span.{Span}
use Rattle.paper.specs.Spans.{Table, overlaps}
use Rattle.paper.specs.Folds.{Rows, within}
use Rattle.paper.specs.Blocks.{past, window}
use Rattle.paper.specs.Embargo.{embargo_from, embargoed}
use Rattle.paper.specs.Marks.{Rule, by_window, by_pair, purged, mark, mark_of}
use Rattle.laws.specs.Hull.{hull}
use Rattle.laws.specs.Ranges.{ranged, Ranges, heads, past_range}
use Rattle.laws.specs.Worker.{covers, covers_is, ranged_split, WindowsOf, EmbargoesOf, worker_meets}
use Rattle.laws.proofs.Heads.{any_blocks}
use Rattle.laws.proofs.HullMisses.{hull_misses}

module _ (T : Table) {F G : ℕ → ℕ} {k : ℕ} (w : Ranges F G k T.rows) where
  -- ---- purged

  -- By the window rule: a search over the windows.
  pub worker_window :
      (win : ℕ → Span) → WindowsOf T F G k win → (i : ℕ) →
      purged by_window T (ranged F G k) i ≡ any (λ j. heads F G j && overlaps T (T.span i) (win j)) k
  worker_window win known i =
      any_blocks w (λ b. overlaps T (T.span i) (window T b (past T.rows (ranged F G k) b)))
      ∙ any_ext _ _ k (λ j l. and_ext (heads F G j) (λ h. ap (overlaps T (T.span i)) (sym (known j l h))))

  -- The same with hulls: only a range whose hull is overlapped is searched.
  pub worker_hulls :
      (hulls : ℕ → Span) → ((j : ℕ) → j < k → hulls j ≡ hull T (F j) (G j)) → (i : ℕ) →
      purged by_pair T (ranged F G k) i
      ≡ any (λ j. overlaps T (T.span i) (hulls j) && any_from (λ r. overlaps T (T.span i) (T.span r)) (F j) (G j)) k
  worker_hulls hulls known i = worker_meets T w i ∙ any_ext _ _ k (λ j l. go j (overlaps T (T.span i) (hull T (F j) (G j))) refl l)
    where
      go :
          (j : ℕ) (v : Bool) → overlaps T (T.span i) (hull T (F j) (G j)) ≡ v → j < k →
          any_from (λ r. overlaps T (T.span i) (T.span r)) (F j) (G j)
          ≡ overlaps T (T.span i) (hulls j) && any_from (λ r. overlaps T (T.span i) (T.span r)) (F j) (G j)
      go j true e l = rw (known j l, e)
      go j false e l = rw (known j l, e) (hull_misses T (T.span i) (F j) (G j) e)

  -- ---- embargoed

  -- A search over the rows where the embargoes begin.
  pub worker_embargoed :
      (emb : ℕ → ℕ) → EmbargoesOf T F G k emb → (width i : ℕ) →
      embargoed T (ranged F G k) width i ≡ any (λ j. heads F G j && covers (emb j) width i) k
  worker_embargoed emb known width i =
      any_blocks w (λ b. let f = embargo_from T b (past T.rows (ranged F G k) b) in within f (f + width) i)
      ∙ any_ext _ _ k
      (λ j l.
      and_ext (heads F G j)
      (λ h. covers_is (embargo_from T (F j) (past_range T.rows F G k j)) width i ∙ ap (λ f. covers f width i) (sym (known j l h))))

  -- ---- the mark

  -- From the three searches to the mark, by either rule: p is what the search of the rule gives.
  pub worker_mark :
      (r : Rule) (unused : Rows) (emb : ℕ → ℕ) → EmbargoesOf T F G k emb → (width i : ℕ) (p : Bool) →
      purged r T (ranged F G k) i ≡ p →
      mark_of r T (ranged_split F G k unused width) i
      ≡ mark (ranged F G k i) (unused i) p (any (λ j. heads F G j && covers (emb j) width i) k)
  unfolding mark_of
  worker_mark r unused emb known width i p e =
      ap (λ x. mark (ranged F G k i) (unused i) x (embargoed T (ranged F G k) width i)) e
      ∙ ap (mark (ranged F G k i) (unused i) p) (worker_embargoed emb known width i)
