-- Text put behind the first bytes of a lent buffer (01, "Report program": the lines that are written). A place counts the bytes
-- in front of it. Where a text does not fit nothing is written, and the place after it lies past the buffer's end, so that
-- nothing more fits there: a line may be put together without a test on the way.
use Rattle.std.specs.Prelude.{◌≡◌, Bool, cond, List, ◌++◌, ℕ, ◌+◌, ◌≤◌, ◌<◌, leb, length, take, drop}

abbrev pub fits : List ℕ → ℕ → List ℕ → Bool
fits buffer at text = leb (at + length text) (length buffer)

-- The buffer with the text at a place, the bytes in front and behind as they were.
abbrev pub overwritten : List ℕ → ℕ → List ℕ → List ℕ
overwritten buffer at text = take at buffer ++ text ++ drop (at + length text) buffer

-- The same where it fits; and the place behind the text.
abbrev pub written : List ℕ → ℕ → List ℕ → List ℕ
written buffer at text = cond (fits buffer at text) (overwritten buffer at text) buffer

abbrev pub behind_text : List ℕ → ℕ → List ℕ → ℕ
behind_text buffer at text = cond (fits buffer at text) (at + length text) (length buffer + 1)

-- What an append leaves, of the buffer as it was.
pub record Appended (buffer : List ℕ) (at : ℕ) (text after : List ℕ) (next : ℕ) : Type 0 where
  pub place : next ≡ behind_text buffer at text
  pub bytes : after ≡ written buffer at text

-- A line put together by appends from the start of a buffer. Where it fits, it stands there, the rest is as it was, and `at` is the
-- place behind it; where it does not, `at` lies past the end.
pub record Line (buffer text after : List ℕ) (at : ℕ) : Type 0 where
  pub long : length after ≡ length buffer
  pub fitted : length text ≤ length buffer → (at ≡ length text) × (after ≡ text ++ drop (length text) buffer)
  pub full : length buffer < length text → length buffer < at
