-- Refused as the checks found; else the marks of fold m + s.
use Prim.{tt}
use mathlib.Core.Path.{refl}
use Prim.Native.Nat.{◌-◌, ◌≤◌, ◌<◌}
use native.Mathlib.Omega.{arith}
use lib.ListN.{length}
use Rattle.paper.specs.Marks.{by_window}
use Rattle.paper.specs.Checks.{walk_forward_checks}
use Rattle.paper.specs.RowCalls.{walk_forward_marks}
use Rattle.paper.proofs.ChecksMeaning.{clear_each}
use Rattle.paper.proofs.Domains.{TableIn, FoldsIn, walk_forward_in}
use Rattle.checks.proofs.ChainLaws.{exit_is, passed_clear}
use Rattle.mark_calls.proofs.OutcomeLaws.{refused_says, refused_leaves, marked_says, marked_leaves}
use Rattle.mark_calls.proofs.forward.walk_forward.Goals as goal
use Rattle.mark_calls.proofs.forward.walk_forward.Goals.{In_ok-sound}

-- What the checks have shown.
shown :
    (c : In_ok-sound) → let a = c.args in
    TableIn a.starts.now a.ends.now a.settings.embargo (length a.marks.now) × FoldsIn a.settings.folds (length a.starts.now)
    × ((1 ≤ a.m) × (a.m < a.settings.folds))
    × (a.split.0 < a.settings.folds - a.m)
shown c =
    let a = c.args in
    let f = walk_forward_checks a.starts.now a.ends.now a.settings a.m a.split.0 (length a.marks.now) in
    walk_forward_in a.starts.now a.ends.now a.settings a.m a.split.0 (length a.marks.now)
    (clear_each f (passed_clear f (tt {0}) c.in_ok-sound.ensures.answer))

pub overflow_add-fold : goal.overflow_add-fold
overflow_add-fold c =
    let t = shown c in
    let few = t.0.few in
    let most = t.1.most in
    let below = t.3 in
    omega arith

pub mark_walk_forward-counts-requires : goal.mark_walk_forward-counts-requires
mark_walk_forward-counts-requires c =
    let p = c.in_ok-sound.ensures.passed in
    let t = shown (goal.at.mark_walk_forward-counts-requires c).In_ok-sound in
    let below = t.3 in
    record {
      fits = rw p.0 t.0.fits;
      fold_in = record { below = omega arith; enough = rw p.0 t.1.most };
    }

pub returns-in_err-sound-clause-answer : goal.returns-in_err-sound-clause-answer
returns-in_err-sound-clause-answer c =
    let a = c.args in
    let e = c.in_err-sound in
    let marks = walk_forward_marks a.starts.now a.ends.now a.settings a.m a.split.0 in
    rw (exit_is _ _ c.from_residual.ensures.1) (refused_says (walk_forward_checks a.starts.now a.ends.now a.settings a.m a.split.0 (length a.marks.now)) by_window marks a.marks.now e.field-0.0 e.ensures.answer)

pub returns-in_err-sound-clause-list : goal.returns-in_err-sound-clause-list
returns-in_err-sound-clause-list c =
    let a = c.args in
    let e = c.in_err-sound in
    let marks = walk_forward_marks a.starts.now a.ends.now a.settings a.m a.split.0 in
    refused_leaves (walk_forward_checks a.starts.now a.ends.now a.settings a.m a.split.0 (length a.marks.now)) by_window marks a.marks.now e.field-0.0 refl e.ensures.answer

pub returns : goal.returns
returns c =
    let a = c.args in
    let f = walk_forward_checks a.starts.now a.ends.now a.settings a.m a.split.0 (length a.marks.now) in
    let marks = walk_forward_marks a.starts.now a.ends.now a.settings a.m a.split.0 in
    let p = c.in_ok-sound.ensures.passed in
    let h = c.in_ok-sound.ensures.answer in
    let w = rw (p.0, p.1) at c.mark_walk_forward-counts.ensures in
    record {
      answer = marked_says f by_window marks a.marks.now h c.trained.result w.counted c.trained.ensures;
      list = marked_leaves f by_window marks a.marks.now h w.marked;
    }
