-- A chain of checks cut in two, and what was found at its end: for the call that goes on, and for the one that refuses.
use mathlib.Core.Path.{◌≡◌, refl, sym, ap, ◌∙◌}
use mathlib.Core.Bool.{Bool, true, false, cond, not, ◌&&◌}
use mathlib.Core.List.{List, [], ◌∷◌, ◌++◌, append-nil}
use Prim.Native.Nat.{ℕ}
use lib.Dec.{eqb}
use borrow.Author.Tests.{not-true}
use Rattle.std.specs.Prelude.{Result, Err}
use Rattle.std.specs.Result.{IsErrAnd}
use Rattle.std.proofs.lemmas.Result.{err_from_is_err_and}
use Rattle.lists.specs.AnyLaws.{both, never}
use Rattle.paper.specs.declared.refusal.Refusal.{Refusal}
use Rattle.paper.specs.Refusals.{Outcome, Carried, done, refused, said_refusal}
use Rattle.paper.specs.Checks.{Check, checked, lent}
use Rattle.paper.proofs.AnswersMeaning.{apart}
use Rattle.paper.proofs.ChecksMeaning.{clear, checked-clear}

-- ---- a chain of checks

-- It comes to a result: none of it is due.
pub done_clear : {A : Type 0} (cs : List Check) (a b : A) → checked cs a ≡ done b → clear cs ≡ true
unfolding checked
done_clear [] a b h = refl
done_clear (c ∷ cs) a b h = go c.due h (done_clear cs a b)
  where
    go : (t : Bool) → cond t (refused c.number c.carried) (checked cs a) ≡ done b
        → (checked cs a ≡ done b → clear cs ≡ true) → not t && clear cs ≡ true
    go true h more = apart (sym h)
    go false h more = more h

-- Cut in two: the second part decides where the first is clear ..
pub append-clear : {A : Type 0} (xs ys : List Check) (a : A) → clear xs ≡ true → checked (xs ++ ys) a ≡ checked ys a
unfolding checked
append-clear [] ys a h = refl
append-clear (c ∷ xs) ys a h = go c.due h (append-clear xs ys a)
  where
    go : (t : Bool) → not t && clear xs ≡ true → (clear xs ≡ true → checked (xs ++ ys) a ≡ checked ys a)
        → cond t (refused c.number c.carried) (checked (xs ++ ys) a) ≡ checked ys a
    go true h more = never refl (sym h)
    go false h more = more h

-- .. and what the first refuses is refused, whatever stands behind it and whatever the result would be.
pub append_refused : {A B : Type 0} (xs ys : List Check) (a : A) (b : B) {n : ℕ} {q : Carried}
    → checked xs a ≡ refused n q → checked (xs ++ ys) b ≡ refused n q
unfolding checked
append_refused [] ys a b h = apart h
append_refused {A} {B} (c ∷ xs) ys a b {n} {q} h = go c.due h (append_refused xs ys a b)
  where
    go : (t : Bool) → cond t (refused c.number c.carried) (checked xs a) ≡ refused n q
        → (checked xs a ≡ refused n q → checked (xs ++ ys) b ≡ refused n q)
        → cond t (refused c.number c.carried) (checked (xs ++ ys) b) ≡ refused n q
    go true h more = cc
    go false h more = more h

-- ---- what a check found

-- The exit of a `?`: the answer is the refusal that was found.
pub exit_is : {A : Type 0} (r : Result A Refusal) (q : Refusal) → IsErrAnd r (λ x. x ≡ q) → r ≡ Err q
exit_is r q h = let p = err_from_is_err_and r h in p.1 ∙ ap Err p.2

-- A refusal of the first part is that of the whole chain, whatever stands behind it ..
pub refused_first : {A B : Type 0} (q : Refusal) (xs ys : List Check) (a : A) (b : B)
    → said_refusal q ≡ checked xs a → said_refusal q ≡ checked (xs ++ ys) b
refused_first q xs ys a b h = sym (append_refused xs ys a b (sym h))

-- .. and where the first part found none, what the second finds is what the chain finds.
pub passed_first : {A B : Type 0} {o : Outcome B} (xs ys : List Check) (a : A) (b : B)
    → done a ≡ checked xs a → o ≡ checked ys b → o ≡ checked (xs ++ ys) b
passed_first xs ys a b h more = more ∙ sym (append-clear xs ys b (done_clear xs a a (sym h)))

-- None was due.
pub passed_clear : {A : Type 0} (cs : List Check) (a : A) → done a ≡ checked cs a → clear cs ≡ true
passed_clear cs a h = done_clear cs a a (sym h)

-- What the call then says: its result ..
pub passed_gives : {A B : Type 0} (cs : List Check) (a : A) (b : B) → done a ≡ checked cs a → done b ≡ checked cs b
passed_gives cs a b h = sym (checked-clear cs b (passed_clear cs a h))

-- .. or the refusal.
pub refused_gives : {A B : Type 0} (q : Refusal) (cs : List Check) (a : A) (b : B) → said_refusal q ≡ checked cs a → said_refusal q ≡ checked cs b
refused_gives q cs a b h = rw append-nil at (refused_first q cs [] a b h)

-- ---- lent lists

-- Is 17, whose refusal leaves marks written, not in the chain?
abbrev pub without17 : List Check → Bool
without17 [] = true
without17 (c ∷ cs) = not (eqb c.number 17) && without17 cs

lent_kept : {A B : Type 0} (cs : List Check) (a : A) (old new : List B) → without17 cs ≡ true → {n : ℕ} {q : Carried}
    → checked cs a ≡ refused n q → lent (checked cs a) old new ≡ old
unfolding checked
lent_kept [] a old new t e = apart e
lent_kept (c ∷ cs) a old new t {n} {q} e =
    let b = both {a = not (eqb c.number 17)} t in
    go c.due e (not-true (eqb c.number 17) b.0) (lent_kept cs a old new b.1)
  where
    go : (d : Bool) → cond d (refused c.number c.carried) (checked cs a) ≡ refused n q → eqb c.number 17 ≡ false
        → (checked cs a ≡ refused n q → lent (checked cs a) old new ≡ old)
        → lent (cond d (refused c.number c.carried) (checked cs a)) old new ≡ old
    go true e other more = rw other
    go false e other more = more e

-- Then a refusal leaves the lent list as it was ..
pub lent_refused : {A B X : Type 0} (q : Refusal) (cs : List Check) → without17 cs ≡ true → (x : X) → said_refusal q ≡ checked cs x
    → (a : A) (old new : List B) → old ≡ lent (checked cs a) old new
lent_refused q cs t x h a old new = sym (lent_kept cs a old new t (sym (refused_gives q cs x a h)))

-- .. and a result leaves the new one.
pub lent_passed : {A B X : Type 0} (cs : List Check) (x : X) → done x ≡ checked cs x → (a : A) (old new : List B) → new ≡ lent (checked cs a) old new
lent_passed cs x h a old new = rw (← passed_gives cs x a h)
