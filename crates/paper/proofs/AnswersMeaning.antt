-- The answers in the paper's terms are one to one: two refusals with the same number that carry the same are the same
-- refusal, and two answers that say the same are the same answer. And each result is said as it is.
use mathlib.Core.Path.{◌≡◌, refl, sym, ap, ap₂, ◌∙◌}
use mathlib.Core.Bool.{cond}
use Prim.Native.Nat.{ℕ}
use native.Mathlib.Omega.{arith}
use lib.Dec.{eqb}
use lib.Ieee.{Float, nan}
use Rattle.paper.specs.declared.refusal.Refusal.{Refusal}
use Rattle.paper.specs.declared.refusal.Refusal.TheVariants.{
  NoRows,
  InvalidSplits,
  InvalidEmbargo,
  InvalidInfoSet,
  WrongLength,
  InvalidTestSplits,
  InvalidMinTrainFolds,
  TooManySplits,
  IndexOutOfRange,
  TooManyRows,
  TooManyFolds,
  LengthsDiffer,
  NoSuchNumber,
  ZeroSize,
  NothingToTest,
  EmptyTrain,
  ReturnsLength,
  NotFinite,
}
use Rattle.paper.specs.declared.answers.OverlapCount.{OverlapCount}
use Rattle.paper.specs.declared.numbers.SplitNumber.{SplitNumber}
use Rattle.paper.specs.Refusals.{Carried, nothing, one, two, double, Outcome, done, refused, number_of, carried_by, said_refusal}
use Rattle.paper.specs.Answers.{said, said_placed, said_overlaps}
use Rattle.std.specs.Prelude.{Result, Ok, Err}

-- ---- a refusal from its number and what it carries

first_in : Carried → ℕ
first_in nothing = 0
first_in (one a) = a
first_in (two a b) = a
first_in (double x) = 0

second_in : Carried → ℕ
second_in nothing = 0
second_in (one a) = 0
second_in (two a b) = b
second_in (double x) = 0

double_in : Carried → Float
double_in nothing = nan
double_in (one a) = nan
double_in (two a b) = nan
double_in (double x) = x

refusal_of : ℕ → Carried → Refusal
refusal_of n c =
    cond (eqb n 1) NoRows
    (cond (eqb n 2) (InvalidSplits (first_in c) (second_in c))
    (cond (eqb n 3) (InvalidEmbargo (double_in c))
    (cond (eqb n 4) (InvalidInfoSet (first_in c))
    (cond (eqb n 5) WrongLength
    (cond (eqb n 6) InvalidTestSplits
    (cond (eqb n 7) InvalidMinTrainFolds
    (cond (eqb n 8) TooManySplits
    (cond (eqb n 9) (IndexOutOfRange (first_in c))
    (cond (eqb n 10) TooManyRows
    (cond (eqb n 11) TooManyFolds
    (cond (eqb n 12) LengthsDiffer
    (cond (eqb n 13) NoSuchNumber
    (cond (eqb n 15) ZeroSize
    (cond (eqb n 16) NothingToTest
    (cond (eqb n 17) EmptyTrain
    (cond (eqb n 18) ReturnsLength (NotFinite (first_in c))))))))))))))))))

refusal_of_said : (r : Refusal) → refusal_of (number_of r) (carried_by r) ≡ r
unfolding refusal_of first_in second_in double_in
refusal_of_said NoRows = refl
refusal_of_said (InvalidSplits N n) = refl
refusal_of_said (InvalidEmbargo x) = refl
refusal_of_said (InvalidInfoSet row) = refl
refusal_of_said WrongLength = refl
refusal_of_said InvalidTestSplits = refl
refusal_of_said InvalidMinTrainFolds = refl
refusal_of_said TooManySplits = refl
refusal_of_said (IndexOutOfRange index) = refl
refusal_of_said TooManyRows = refl
refusal_of_said TooManyFolds = refl
refusal_of_said LengthsDiffer = refl
refusal_of_said NoSuchNumber = refl
refusal_of_said ZeroSize = refl
refusal_of_said NothingToTest = refl
refusal_of_said EmptyTrain = refl
refusal_of_said ReturnsLength = refl
refusal_of_said (NotFinite place) = refl

-- Number and cargo tell refusals apart.
pub refusal_one : (a b : Refusal) → number_of a ≡ number_of b → carried_by a ≡ carried_by b → a ≡ b
refusal_one a b n c = sym (refusal_of_said a) ∙ ap₂ refusal_of n c ∙ refusal_of_said b

pub said_refusal_one : {A : Type 0} (a b : Refusal) → said_refusal {A = A} a ≡ said_refusal b → a ≡ b
said_refusal_one {A} a b h =
    let n : number_of a ≡ number_of b = cc in
    let c : carried_by a ≡ carried_by b = cc in
    refusal_one a b n c

-- ---- the answers

-- A result is no refusal.
pub apart : {A X : Type 0} {a : A} {n : ℕ} {c : Carried} → ◌≡◌ {A = Outcome A} (done a) (refused n c) → X
apart {a} {n} {c} h = absurd (let z : ◌≡◌ {A = ℕ} 0 1 = cc in omega arith)

-- So two answers that say the same are the same.
pub said_one : {A : Type 0} (a b : Result A Refusal) → said a ≡ said b → a ≡ b
said_one (Ok c) (Ok d) h = cc
said_one (Ok c) (Err r) h = apart h
said_one (Err q) (Ok d) h = apart (sym h)
said_one (Err q) (Err r) h = ap Err (said_refusal_one q r h)

pub said_placed_one : (a b : Result SplitNumber Refusal) → said_placed a ≡ said_placed b → a ≡ b
said_placed_one (Ok c) (Ok d) h = let z : c.0 ≡ d.0 = cc in ap (λ x. Ok (record { 0 = x })) z
said_placed_one (Ok c) (Err r) h = apart h
said_placed_one (Err q) (Ok d) h = apart (sym h)
said_placed_one (Err q) (Err r) h = ap Err (said_refusal_one q r h)

pub said_overlaps_one : (a b : Result OverlapCount Refusal) → said_overlaps a ≡ said_overlaps b → a ≡ b
said_overlaps_one (Ok c) (Ok d) h = let z : c.count ≡ d.count = cc in ap (λ x. Ok (record { count = x })) z
said_overlaps_one (Ok c) (Err r) h = apart h
said_overlaps_one (Err q) (Ok d) h = apart (sym h)
said_overlaps_one (Err q) (Err r) h = ap Err (said_refusal_one q r h)

-- One to one would leave room to number from 1.
pub record Results {A : Type 0} (a : A) (s : SplitNumber) (o : OverlapCount) : Type 0 where
  pub result : said (Ok a) ≡ done a
  pub placed : said_placed (Ok s) ≡ done s.0
  pub overlaps : said_overlaps (Ok o) ≡ done o.count

pub said_results : {A : Type 0} (a : A) (s : SplitNumber) (o : OverlapCount) → Results a s o
said_results a s o = record { result = refl; placed = refl; overlaps = refl }
