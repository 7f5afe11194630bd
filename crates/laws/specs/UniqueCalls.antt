-- Uniqueness, call by call: two outcomes that the contract of a call allows are the same, the answer and the lent list. Each
-- is an instance of Unique; the premises are the contract's equations, for two arbitrary answers and two arbitrary lists.
use Rattle.std.specs.Prelude.{◌≡◌, List, ℕ, ℤ, Float, length, Option, Result}
use Rattle.std.proofs.Common.{sym, ◌∙◌}
use Rattle.paper.specs.declared.settings.Settings.{Settings}
use Rattle.paper.specs.declared.numbers.SplitNumber.{SplitNumber}
use Rattle.paper.specs.declared.numbers.FoldSet.{FoldSet}
use Rattle.paper.specs.declared.refusal.Refusal.{Refusal}
use Rattle.paper.specs.Refusals.{Outcome}
use Rattle.paper.specs.Marks.{Rule}
use Rattle.paper.specs.Overlaps.{naive_marks}
use Rattle.paper.specs.Answers.{said, said_placed}
use Rattle.paper.specs.Paths.{path_of}
use Rattle.paper.specs.Checks.{lent}
use Rattle.paper.proofs.AnswersMeaning.{said_one, said_placed_one}
use Rattle.paper.specs.RowCalls.{kfold_marks, kfold_call, cpcv_marks, cpcv_call, walk_forward_marks, walk_forward_call, rolling_marks, rolling_call, naive_call, flags_of, train_times_call}
use Rattle.paper.specs.SplitCalls.{split_count, path_count, split_folds, set_number, set_next, path_split, path_written}
use Rattle.laws.specs.Unique.{Allowed, answer_unique}

-- What the contract of a call allows: this answer, with this list afterwards, where it comes to `out`, was lent `old` and would
-- write `new`.
abbrev pub Allows : {A R B : Type 0} → (A → Outcome R) → Outcome R → List B → List B → A → List B → Type 0
Allows said out old new a l = Allowed said out (lent out old new) a l

-- Any two that are allowed are the same.
abbrev pub Settles : {A R B : Type 0} → (A → Outcome R) → Outcome R → List B → List B → Type 0
Settles {A = A} {B = B} said out old new =
    (a b : A) (l m : List B) → Allows said out old new a l → Allows said out old new b m → (a ≡ b) × (l ≡ m)

module _ (r : Rule) (starts ends : List ℤ) (st : Settings) (k m s : ℕ) (old : List ℕ) where
  pub kfold_unique : Settles said (kfold_call r starts ends st s (length old)) old (kfold_marks r starts ends st s)
  kfold_unique a b l n x y = answer_unique.same x y

  pub cpcv_unique : Settles said (cpcv_call r starts ends st k s (length old)) old (cpcv_marks r starts ends st k s)
  cpcv_unique a b l n x y = answer_unique.same x y

  pub walk_forward_unique : Settles said (walk_forward_call starts ends st m s (length old)) old (walk_forward_marks starts ends st m s)
  walk_forward_unique a b l n x y = answer_unique.same x y

  pub rolling_unique :
      (x : Float) (a size step : ℕ) →
      Settles said (rolling_call starts ends x a size step s (length old)) old (rolling_marks starts ends a size step s)
  rolling_unique f a size step p q l n x y = answer_unique.same x y

  pub naive_unique : (n N : ℕ) → Settles said (naive_call n N s (length old)) old (naive_marks n N s)
  naive_unique n N p q l o x y = answer_unique.same x y

  pub train_times_unique :
      (test_starts test_ends : List ℤ) →
      Settles said (train_times_call starts ends test_starts test_ends (length old)) old (flags_of starts ends test_starts test_ends)
  train_times_unique ts te p q l o x y = answer_unique.same x y

-- Calls on numbers alone: the answer, and the path that is written beside it.
module _ (N k : ℕ) where
  pub split_count_unique : (a b : Result ℕ Refusal) → said a ≡ split_count N k → said b ≡ split_count N k → a ≡ b
  split_count_unique a b x y = said_one a b (x ∙ sym y)

  pub path_count_unique : (a b : Result ℕ Refusal) → said a ≡ path_count N k → said b ≡ path_count N k → a ≡ b
  path_count_unique a b x y = said_one a b (x ∙ sym y)

  pub split_folds_unique : (s : ℕ) (a b : Result FoldSet Refusal) → said a ≡ split_folds N k s → said b ≡ split_folds N k s → a ≡ b
  split_folds_unique s a b x y = said_one a b (x ∙ sym y)

  pub set_number_unique : (set : List ℕ) (a b : Result SplitNumber Refusal) → said_placed a ≡ set_number N k set → said_placed b ≡ set_number N k set → a ≡ b
  set_number_unique set a b x y = said_placed_one a b (x ∙ sym y)

  pub set_next_unique :
      (set : List ℕ) (a b : Result (Option FoldSet) Refusal) → said a ≡ set_next N k set → said b ≡ set_next N k set → a ≡ b
  set_next_unique set a b x y = said_one a b (x ∙ sym y)

  pub path_split_unique : (p g : ℕ) (a b : Result SplitNumber Refusal) → said_placed a ≡ path_split N k p g → said_placed b ≡ path_split N k p g → a ≡ b
  path_split_unique p g a b x y = said_placed_one a b (x ∙ sym y)

  pub whole_path_unique : (p : ℕ) (old : List ℕ) → Settles said (path_written N k p (length old)) old (path_of N k p)
  whole_path_unique p old a b l m x y = answer_unique.same x y
