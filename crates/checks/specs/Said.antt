-- What a check has found, in the paper's terms.
use Rattle.std.specs.Prelude.{Bool, Result, Ok, Err}
use Prim.{Unit, tt}
use Rattle.paper.specs.declared.refusal.Refusal.{Refusal}
use Rattle.paper.specs.Refusals.{Outcome, done, number_of, carried_by, said_refusal}
use Rattle.paper.specs.Checks.{Check}

-- No refusal, whatever the check hands on, or the first that is due.
abbrev pub said_checked : {A : Type 0} → Result A Refusal → Outcome (Unit {0})
said_checked (Ok a) = done tt
said_checked (Err r) = said_refusal r

-- A check by the refusal that it gives.
abbrev pub due_as : Refusal → Bool → Check
due_as r due = record { number = number_of r; carried = carried_by r; due = due }
