use Prim.{tt}
use mathlib.Core.List.{[], ◌∷◌}
use mathlib.Core.Path.{sym, ◌∙◌}
use Rattle.paper.specs.Checks.{bad_test_folds, too_many_folds, too_many_splits}
use Rattle.checks.proofs.ChainLaws.{exit_is, refused_first, passed_first}
use Rattle.checks.proofs.ReadyLaws.{test_folds}
use Rattle.std.proofs.lemmas.Bool.{ltb-false}
use Rattle.checks.proofs.numbers.combinations.Goals as goal

pub returns-in_err-refuse_if-clause-answer : goal.returns-in_err-refuse_if-clause-answer
returns-in_err-refuse_if-clause-answer c =
    let a = c.args in
    let e = c.in_err-refuse_if in
    rw (exit_is _ _ c.from_residual.ensures.1)
    (refused_first e.field-0.0 (bad_test_folds a.n a.k ∷ []) (too_many_folds a.n ∷ too_many_splits a.n a.k ∷ []) (tt {0}) (tt {0})
    (rw c.outside.ensures at e.ensures.answer))

pub returns-in_err-refuse_if-2-clause-answer : goal.returns-in_err-refuse_if-2-clause-answer
returns-in_err-refuse_if-2-clause-answer c =
    let a = c.args in
    let e = c.in_err-refuse_if-2 in
    rw (exit_is _ _ c.from_residual-in_err-refuse_if-2.ensures.1)
    (passed_first (bad_test_folds a.n a.k ∷ []) (too_many_folds a.n ∷ too_many_splits a.n a.k ∷ []) (tt {0}) (tt {0})
    (rw c.outside.ensures at c.in_ok-refuse_if.ensures.answer)
    (refused_first e.field-0.0 (too_many_folds a.n ∷ []) (too_many_splits a.n a.k ∷ []) (tt {0}) (tt {0}) e.ensures.answer))

pub invariant_of-choice : goal.invariant_of-choice
invariant_of-choice c =
    let t = test_folds c.args.n c.args.k (sym c.outside.ensures ∙ c.in_ok-refuse_if.ensures.passed) in
    record { some = t.0; fewer = t.1; small = ltb-false 64 c.args.n c.in_ok-refuse_if-2.ensures.passed }

pub returns-in_err-refuse_if-3-clause-answer : goal.returns-in_err-refuse_if-3-clause-answer
returns-in_err-refuse_if-3-clause-answer c =
    let a = c.args in
    let e = c.in_err-refuse_if-3 in
    rw (exit_is _ _ c.from_residual-in_err-refuse_if-3.ensures.1)
    (passed_first (bad_test_folds a.n a.k ∷ []) (too_many_folds a.n ∷ too_many_splits a.n a.k ∷ []) (tt {0}) (tt {0})
    (rw c.outside.ensures at c.in_ok-refuse_if.ensures.answer)
    (passed_first (too_many_folds a.n ∷ []) (too_many_splits a.n a.k ∷ []) (tt {0}) (tt {0}) c.in_ok-refuse_if-2.ensures.answer
    (rw c.too_many.ensures at e.ensures.answer)))

pub returns-clause-answer : goal.returns-clause-answer
returns-clause-answer c =
    let a = c.args in
    passed_first (bad_test_folds a.n a.k ∷ []) (too_many_folds a.n ∷ too_many_splits a.n a.k ∷ []) (tt {0}) (tt {0})
    (rw c.outside.ensures at c.in_ok-refuse_if.ensures.answer)
    (passed_first (too_many_folds a.n ∷ []) (too_many_splits a.n a.k ∷ []) (tt {0}) (tt {0}) c.in_ok-refuse_if-2.ensures.answer
    (rw c.too_many.ensures at c.in_ok-refuse_if-3.ensures.answer))
