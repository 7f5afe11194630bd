-- From what the checks found and what the worker marked to what the call comes to. The chain of a call is its checks (front)
-- and, behind them, 17 of the pair rule, which looks at the marks.
use mathlib.Core.Path.{◌≡◌, refl, sym, ap, ap₂, ◌∙◌}
use mathlib.Core.Bool.{Bool, true, false, cond}
use mathlib.Core.List.{List, [], ◌∷◌, ◌++◌}
use Prim.{Unit, tt}
use Prim.Native.Nat.{ℕ, ◌+◌, ◌*◌, ◌≤◌, ◌<◌}
use native.Mathlib.Omega.{arith}
use lib.Dec.{eqb}
use lib.IntN.{ℤ}
use lib.Ieee.{Float}
use lib.ListN.{length}
use Rattle.lists.specs.Base.{tally}
use Rattle.paper.specs.declared.refusal.Refusal.{Refusal}
use Rattle.paper.specs.declared.answers.Counts.{Counts}
use Rattle.std.specs.Prelude.{Result}
use Rattle.paper.specs.Refusals.{done, refused, nothing, said_refusal}
use Rattle.paper.specs.Answers.{said}
use Rattle.paper.specs.Marks.{Rule, by_window, by_pair, counts_of}
use Rattle.paper.specs.Checks.{Check, checked, lent, empty_train, zero_size, nothing_to_test, no_such}
use Rattle.checks.proofs.ChainLaws.{append-clear, refused_first, passed_clear, without17, lent_refused}
use Rattle.paper.specs.declared.numbers.FoldSet.{FoldSet}
use Rattle.paper.specs.Spans.{table}
use Rattle.paper.specs.Sets.{choose, entry, is_split}
use Rattle.paper.specs.Handed.{handed, list_of}
use Rattle.paper.proofs.ChecksMeaning.{Clear}
use Rattle.paper.proofs.RefusalsMeaning.{lengths_differ_passes, no_rows_passes, too_many_rows_passes, bad_fraction_passes, bad_span_passes, wrong_length_passes, zero_size_passes, no_such_passes}
use Rattle.paper.proofs.Domains.{TableIn, FoldsIn, SetsIn}
use Rattle.paper.proofs.HandedMeaning.{handed_back}
use Rattle.paper.proofs.ListingMeaning.{entry_length, entry-is_split}
use Rattle.row_checks.specs.RowsAlone.{rows_alone}
use Rattle.layouts.specs.Tested.{SetIn}
use Rattle.mark_calls.specs.Trainless.{trainless}

-- The counts tell what the marks tell.
trainless_is : (r : Rule) (marks : List ℕ) → checked (empty_train r marks) (counts_of marks) ≡ checked (trainless r (counts_of marks)) (counts_of marks)
trainless_is by_window marks = refl
trainless_is by_pair marks = refl

-- Whether 17 is due or not, the marks are written.
lent_empty : {A : Type 0} (r : Rule) (marks : List ℕ) (a : A) (old new : List ℕ) → new ≡ lent (checked (empty_train r marks) a) old new
unfolding checked
lent_empty by_window marks a old new = refl
lent_empty {A} by_pair marks a old new = go (eqb (tally 0 marks) 0)
  where
    go : (d : Bool) → new ≡ lent {A = A} (cond d (refused 17 nothing) (done a)) old new
    go true = refl
    go false = refl

module _ (front : List Check) (r : Rule) (marks old : List ℕ) where
  -- The call refused: what it says, and the list as it was.
  pub refused_says : (q : Refusal) → said_refusal q ≡ checked front (tt {0}) → said_refusal q ≡ checked (front ++ empty_train r marks) (counts_of marks)
  refused_says q h = refused_first q front (empty_train r marks) (tt {0}) (counts_of marks) h

  pub refused_leaves :
      (q : Refusal) → without17 front ≡ true → said_refusal q ≡ checked front (tt {0}) →
      old ≡ lent (checked (front ++ empty_train r marks) (counts_of marks)) old marks
  refused_leaves q t h =
      let l : old ≡ lent {A = Unit {0}} (said_refusal q) old marks = rw (sym h) at (lent_refused q front t (tt {0}) h (tt {0}) old marks) in
      rw (← refused_says q h) l

  -- The call went on: what it says, and the marks.
  module _ (h : done (tt {0}) ≡ checked front (tt {0})) where
    pub marked_says :
        (m : Result Counts Refusal) {c : Counts} → c ≡ counts_of marks → said m ≡ checked (trainless r c) c →
        said m ≡ checked (front ++ empty_train r marks) (counts_of marks)
    marked_says m {c} k s =
        (rw k at s) ∙ sym (trainless_is r marks)
        ∙ sym (append-clear front (empty_train r marks) (counts_of marks) (passed_clear front (tt {0}) h))

    pub marked_leaves : {l : List ℕ} → l ≡ marks → l ≡ lent (checked (front ++ empty_train r marks) (counts_of marks)) old marks
    marked_leaves k =
        k ∙ lent_empty r marks (counts_of marks) old marks
        ∙ ap (λ o. lent o old marks) (sym (append-clear front (empty_train r marks) (counts_of marks) (passed_clear front (tt {0}) h)))

-- What the checks of the rolling layout have shown, 17 not among them.
pub rolling_shown :
    (starts ends : List ℤ) (x : Float) (a size step s room : ℕ) →
    Clear (rows_alone starts ends x room ++ zero_size a size step ∷ nothing_to_test a (length starts) ∷ no_such (length starts) (a + s * step) ∷ []) →
    TableIn starts ends x room × (1 ≤ size) × (a + s * step < length starts)
rolling_shown starts ends x a size step s room h =
    let n = length starts in
    let t = h.1.1.1 in (
      record {
        same = (lengths_differ_passes starts ends).shows h.0;
        some = (no_rows_passes n).shows h.1.0;
        few = (too_many_rows_passes n).shows h.1.1.0;
        fraction = (bad_fraction_passes x).shows t.0;
        in_order = (bad_span_passes (table starts ends)).shows t.1.0;
        fits = (wrong_length_passes room n).shows t.1.1.0;
      },
      ((zero_size_passes a size step).shows t.1.1.1.0).1,
      (no_such_passes n (a + s * step)).shows t.1.1.1.1.1.0,
    )

-- The set of an accepted split, as it is handed out: its folds are the entry's, and it is a split of the rows.
pub entry_list : {set : FoldSet} (N k s : ℕ) → set ≡ handed (entry N k s) → list_of set ≡ entry N k s
entry_list N k s e = ap list_of e ∙ handed_back (entry N k s)

pub entry_in :
    {n : ℕ} {set : FoldSet} (N k s : ℕ) → FoldsIn N n → SetsIn N k → s < choose N k → set ≡ handed (entry N k s) → SetIn n N set
entry_in {n} {set} N k s f t h e =
    let count : set.count ≡ k = ap (λ x. x.count) e ∙ entry_length 0 N k s h in
    let few = t.few in
    let less = t.less in
    let two = f.two in
    record {
      some = omega arith;
      enough = f.most;
      few = omega arith;
      split = ap₂ (is_split N) count (entry_list N k s e) ∙ entry-is_split N k s h;
    }
