-- What the answer of a call says in the paper's terms: the result, or the refusal's number and what it carries
-- (01, "Forms by place"). Contracts cite these. That no two answers say the same is shown in proofs/AnswersMeaning.antt.
use Rattle.std.specs.Prelude.{ℕ, Result, Ok, Err}
use Rattle.paper.specs.declared.numbers.SplitNumber.{SplitNumber}
use Rattle.paper.specs.declared.answers.OverlapCount.{OverlapCount}
use Rattle.paper.specs.declared.refusal.Refusal.{Refusal}
use Rattle.paper.specs.Refusals.{Outcome, done, said_refusal}

-- Counts of marks, a number, a fold set, or nothing more, where what was asked for stands in a lent list.
abbrev pub said : {A : Type 0} → Result A Refusal → Outcome A
said (Ok a) = done a
said (Err r) = said_refusal r

-- The number of a split.
abbrev pub said_placed : Result SplitNumber Refusal → Outcome ℕ
said_placed (Ok s) = done s.0
said_placed (Err r) = said_refusal r

-- The overlap count.
abbrev pub said_overlaps : Result OverlapCount Refusal → Outcome ℕ
said_overlaps (Ok o) = done o.count
said_overlaps (Err r) = said_refusal r
