-- Refused as the checks found; else the marks of the folds of the split's set, with the width of the fraction, and 17 behind them.
use Prim.{tt}
use mathlib.Core.Path.{◌≡◌, refl, ap, ◌∙◌}
use mathlib.Core.List.{List, [], ◌∷◌, ◌++◌}
use Prim.Native.Nat.{ℕ, ◌<◌}
use lib.IntN.{ℤ}
use lib.ListN.{length}
use Rattle.paper.specs.declared.settings.Settings.{Settings}
use Rattle.paper.specs.Spans.{table}
use Rattle.paper.specs.Folds.{folds, even_borders}
use Rattle.paper.specs.Layouts.{cross}
use Rattle.paper.specs.Handed.{list_of}
use Rattle.paper.specs.Sets.{choose}
use Rattle.paper.specs.Marks.{by_window, marks_of, counts_of}
use Rattle.paper.specs.Checks.{Check, table_checks, combination_checks, no_such}
use Rattle.paper.specs.RowCalls.{cpcv_marks}
use Rattle.paper.proofs.ChecksMeaning.{clear_each}
use Rattle.paper.proofs.Domains.{TableIn, FoldsIn, SetsIn, cpcv_in}
use Rattle.paper.specs.Rules.{rule_of}
use Rattle.checks.proofs.ChainLaws.{exit_is, passed_clear}
use Rattle.mark_calls.proofs.OutcomeLaws.{refused_says, refused_leaves, marked_says, marked_leaves, entry_list, entry_in}
use Rattle.mark_calls.proofs.cross.cpcv.Goals as goal
use Rattle.mark_calls.proofs.cross.cpcv.Goals.{In_ok-sound}

-- All checks but 17.
abbrev front : List ℤ → List ℤ → Settings → ℕ → ℕ → ℕ → List Check
front starts ends st k s room =
    table_checks starts ends st room ++ combination_checks st.folds k ++ no_such (choose st.folds k) s ∷ []

-- What they have shown.
shown :
    (c : In_ok-sound) → let a = c.args in
    TableIn a.starts.now a.ends.now a.settings.embargo (length a.marks.now) × FoldsIn a.settings.folds (length a.starts.now)
    × SetsIn a.settings.folds a.k
    × (a.split.0 < choose a.settings.folds a.k)
shown c =
    let a = c.args in
    let f = front a.starts.now a.ends.now a.settings a.k a.split.0 (length a.marks.now) in
    cpcv_in by_window a.starts.now a.ends.now a.settings (length a.marks.now) [] a.k a.split.0
    (clear_each f (passed_clear f (tt {0}) c.in_ok-sound.ensures.answer))

pub rounded_up-width-requires : goal.rounded_up-width-requires
rounded_up-width-requires c =
    let p = c.in_ok-sound.ensures.passed in
    let t = shown (goal.at.rounded_up-width-requires c).In_ok-sound in
    record { fraction_value = t.0.fraction; n_bound = rw c.len.ensures c.in_ok-sound.sound.few }

pub mark_folds-counts-requires : goal.mark_folds-counts-requires
mark_folds-counts-requires c =
    let a = c.args in
    let p = c.in_ok-sound.ensures.passed in
    let t = shown (goal.at.mark_folds-counts-requires c).In_ok-sound in
    let e = rw (p.1, p.2) at c.set_at-set.ensures in
    record {
      fits = rw p.0.0 t.0.fits;
      set_in = rw p.0.0 (entry_in a.settings.folds a.k a.split.0 t.1 t.2 t.3 e);
    }

pub returns-in_err-sound-clause-answer : goal.returns-in_err-sound-clause-answer
returns-in_err-sound-clause-answer c =
    let a = c.args in
    let e = c.in_err-sound in
    let marks = cpcv_marks (rule_of a.rule) a.starts.now a.ends.now a.settings a.k a.split.0 in
    rw (exit_is _ _ c.from_residual.ensures.1) (refused_says (front a.starts.now a.ends.now a.settings a.k a.split.0 (length a.marks.now)) (rule_of a.rule) marks a.marks.now e.field-0.0 e.ensures.answer)

pub returns-in_err-sound-clause-list : goal.returns-in_err-sound-clause-list
returns-in_err-sound-clause-list c =
    let a = c.args in
    let e = c.in_err-sound in
    let marks = cpcv_marks (rule_of a.rule) a.starts.now a.ends.now a.settings a.k a.split.0 in
    refused_leaves (front a.starts.now a.ends.now a.settings a.k a.split.0 (length a.marks.now)) (rule_of a.rule) marks a.marks.now e.field-0.0 refl e.ensures.answer

pub returns : goal.returns
returns c =
    let a = c.args in
    let r = rule_of a.rule in
    let f = front a.starts.now a.ends.now a.settings a.k a.split.0 (length a.marks.now) in
    let marks = cpcv_marks r a.starts.now a.ends.now a.settings a.k a.split.0 in
    let t = c.in_ok-sound.sound.table in
    let p = c.in_ok-sound.ensures.passed in
    let h = c.in_ok-sound.ensures.answer in
    let e = entry_list a.settings.folds a.k a.split.0 (rw (p.1, p.2) at c.set_at-set.ensures) in
    let same :
    marks_of r (table t.starts.now t.ends.now) (cross (folds (even_borders (length t.starts.now) a.settings.folds) (list_of c.set_at-set.result)) c.rounded_up-width.result) ≡ marks =
    rw (e, c.rounded_up-width.ensures, c.len.ensures, p.0.0, p.0.1) refl
    in
    record {
      answer = marked_says f r marks a.marks.now h c.trained.result (c.mark_folds-counts.ensures.counted ∙ ap counts_of same) c.trained.ensures;
      list = marked_leaves f r marks a.marks.now h (c.mark_folds-counts.ensures.marked ∙ same);
    }
