-- Unique: any two outcomes that a contract allows are the same.
--
-- A contract says two things: the answer, in the paper's numbers, is the first refusal of the call's chain that is due, or
-- the result; and what is left in the lent list is what the paper says of that outcome. Both are equations, and no two
-- answers say the same. So an answer with what is left beside it is settled.
-- Stated once of all calls, and named for each kind of answer: a call is an instance by its chain, result and lent list.
use Rattle.std.specs.Prelude.{◌≡◌, List}
use Rattle.std.proofs.Common.{sym, ◌∙◌}
use Rattle.paper.specs.Refusals.{Outcome}
use Rattle.paper.specs.Checks.{Check, checked, lent}
use Rattle.paper.specs.Answers.{said, said_placed, said_overlaps}
use Rattle.paper.proofs.AnswersMeaning.{said_one, said_placed_one, said_overlaps_one}

-- Answer a, with x beside it, is allowed where the paper says `out` and `beside`.
pub record Allowed {A R X : Type 0} (said : A → Outcome R) (out : Outcome R) (beside : X) (a : A) (x : X) : Type 0 where
  pub says : said a ≡ out
  pub leaves : x ≡ beside

-- A call has a chain of checks, a result, and a list that comes in as old and is new once it is written.
abbrev pub AllowedCall : {A R B : Type 0} → (A → Outcome R) → List Check → R → List B → List B → A → List B → Type 0
AllowedCall said checks result old new a l = Allowed said (checked checks result) (lent (checked checks result) old new) a l

-- Whatever the paper says, two allowed outcomes are the same.
pub record Unique {A R : Type 0} (said : A → Outcome R) : Type 1 where
  pub same :
      {X : Type 0} {out : Outcome R} {beside : X} {a b : A} {x y : X} → Allowed said out beside a x → Allowed said out beside b y →
      (a ≡ b) × (x ≡ y)

-- It is enough that no two answers say the same.
pub unique : {A R : Type 0} (said : A → Outcome R) → ((a b : A) → said a ≡ said b → a ≡ b) → Unique said
unique said one =
    record { same = λ {a} {b} p q. (one a b (p.says ∙ sym q.says), p.leaves ∙ sym q.leaves) }

-- The same said of a call.
pub call_unique :
    {A R B : Type 0} (said : A → Outcome R) → Unique said → (checks : List Check) (result : R) (old new : List B) (a b : A) (l m : List B) →
    AllowedCall said checks result old new a l → AllowedCall said checks result old new b m → (a ≡ b) × (l ≡ m)
call_unique said u checks result old new a b l m p q = u.same p q

-- ---- each kind of answer

-- An answer that says its result as it is: counts of marks, a number of splits or of paths, the folds of a split, the set
-- after a given one, or nothing beside a lent list.
pub answer_unique : {A : Type 0} → Unique (said {A = A})
answer_unique = unique said said_one

-- The number of a fold set, the split on a path.
pub placed_unique : Unique said_placed
placed_unique = unique said_placed said_placed_one

-- The overlap count.
pub overlaps_unique : Unique said_overlaps
overlaps_unique = unique said_overlaps said_overlaps_one
