-- The eighteen refusals in the paper's numbers, and what each carries (01, "Refusal numbers"); and what a call comes to: a
-- result, or one numbered refusal.
use Rattle.std.specs.Prelude.{ℕ, Float}
use Rattle.paper.specs.declared.refusal.Refusal.{Refusal}
use Rattle.paper.specs.declared.refusal.Refusal.TheVariants.{
  NoRows,
  InvalidSplits,
  InvalidEmbargo,
  InvalidInfoSet,
  WrongLength,
  InvalidTestSplits,
  InvalidMinTrainFolds,
  TooManySplits,
  IndexOutOfRange,
  TooManyRows,
  TooManyFolds,
  LengthsDiffer,
  NoSuchNumber,
  ZeroSize,
  NothingToTest,
  EmptyTrain,
  ReturnsLength,
  NotFinite,
}

-- What a refusal carries: nothing; one row, index or place; N and n; or a double.
pub data Carried : Type 0 where
  nothing : Carried
  one : ℕ → Carried
  two : ℕ → ℕ → Carried
  double : Float → Carried

-- What a call comes to.
pub data Outcome (A : Type 0) : Type 0 where
  done : A → Outcome A
  refused : ℕ → Carried → Outcome A

abbrev pub number_of : Refusal → ℕ
number_of NoRows = 1
number_of (InvalidSplits N n) = 2
number_of (InvalidEmbargo x) = 3
number_of (InvalidInfoSet row) = 4
number_of WrongLength = 5
number_of InvalidTestSplits = 6
number_of InvalidMinTrainFolds = 7
number_of TooManySplits = 8
number_of (IndexOutOfRange index) = 9
number_of TooManyRows = 10
number_of TooManyFolds = 11
number_of LengthsDiffer = 12
number_of NoSuchNumber = 13
number_of ZeroSize = 15
number_of NothingToTest = 16
number_of EmptyTrain = 17
number_of ReturnsLength = 18
number_of (NotFinite place) = 19

abbrev pub carried_by : Refusal → Carried
carried_by NoRows = nothing
carried_by (InvalidSplits N n) = two N n
carried_by (InvalidEmbargo x) = double x
carried_by (InvalidInfoSet row) = one row
carried_by WrongLength = nothing
carried_by InvalidTestSplits = nothing
carried_by InvalidMinTrainFolds = nothing
carried_by TooManySplits = nothing
carried_by (IndexOutOfRange index) = one index
carried_by TooManyRows = nothing
carried_by TooManyFolds = nothing
carried_by LengthsDiffer = nothing
carried_by NoSuchNumber = nothing
carried_by ZeroSize = nothing
carried_by NothingToTest = nothing
carried_by EmptyTrain = nothing
carried_by ReturnsLength = nothing
carried_by (NotFinite place) = one place

-- A refusal as an outcome.
abbrev pub said_refusal : {A : Type 0} → Refusal → Outcome A
said_refusal r = refused (number_of r) (carried_by r)
