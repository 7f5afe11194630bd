-- Fields parted by tabs, lines ended by LF (01, "Report program"): the parts of a text as lists of bytes, and the same
-- parts as places in it.
use Rattle.std.specs.Prelude.{◌≡◌, cond, List, [], ◌∷◌, ℕ, ◌+◌, ◌-◌, ◌≤◌, leb, eqb, length, get_or, take, drop, Option, None, option_map}
use Rattle.lists.specs.Base.{first_from}

abbrev pub tab_byte : ℕ
tab_byte = 9

abbrev pub lf_byte : ℕ
lf_byte = 10

-- A byte in front of the first of some parts.
abbrev pub on_first : ℕ → List (List ℕ) → List (List ℕ)
on_first c [] = (c ∷ []) ∷ []
on_first c (p ∷ ps) = (c ∷ p) ∷ ps

-- The parts of a text that a byte parts: one more than there are such bytes.
unfoldable pub parts_of : ℕ → List ℕ → List (List ℕ)
parts_of b [] = [] ∷ []
parts_of b (c ∷ s) = cond (eqb c b) ([] ∷ parts_of b s) (on_first c (parts_of b s))

-- The fields of a line.
abbrev pub fields_of : List ℕ → List (List ℕ)
fields_of s = parts_of tab_byte s

-- The first of some fields, read, with the others; none where there is no field, or it is not of the form.
abbrev pub first_as : {A : Type 0} → (List ℕ → Option A) → List (List ℕ) → Option (A × List (List ℕ))
first_as read [] = None
first_as read (p ∷ ps) = option_map (λ v. (v, ps)) (read p)

-- All but the last of some parts.
unfoldable pub ended : List (List ℕ) → List (List ℕ)
ended [] = []
ended (p ∷ []) = []
ended (p ∷ q ∷ ps) = p ∷ ended (q ∷ ps)

-- The last of them.
unfoldable pub behind_last : List (List ℕ) → List ℕ
behind_last [] = []
behind_last (p ∷ []) = p
behind_last (p ∷ q ∷ ps) = behind_last (q ∷ ps)

-- The lines of a text, without their LF; and what stands behind the last LF, which is no line.
abbrev pub lines_of : List ℕ → List (List ℕ)
lines_of s = ended (parts_of lf_byte s)

abbrev pub rest_of : List ℕ → List ℕ
rest_of s = behind_last (parts_of lf_byte s)

-- The first place from a on that holds the byte. Where there is none: the length, or a where that is more.
unfoldable pub find_from : ℕ → List ℕ → ℕ → ℕ
find_from b s a = first_from (λ i. eqb (get_or s i 0) b) a (length s - a)

-- The bytes from place a up to e.
abbrev pub part : List ℕ → ℕ → ℕ → List ℕ
part s a e = take (e - a) (drop a s)

-- The parts that begin at a and behind it. A place past the end has none.
unfoldable pub parts_from : ℕ → List ℕ → ℕ → List (List ℕ)
unfolding parts_of
parts_from b s a = cond (leb a (length s)) (parts_of b (drop a s)) []

-- The lines from a on, and what stands behind them.
abbrev pub lines_from : List ℕ → ℕ → List (List ℕ)
lines_from s a = ended (parts_from lf_byte s a)

abbrev pub rest_from : List ℕ → ℕ → List ℕ
rest_from s a = behind_last (parts_from lf_byte s a)

-- The field that begins at a ends at e. The bounds follow from the place; whoever takes the field out asks for them.
pub record Ends (s : List ℕ) (a e : ℕ) : Type 0 where
  pub place : e ≡ find_from tab_byte s a
  pub low : a ≤ e
  pub high : e ≤ length s

-- The field that begins at a, read, and where the next begins: past the end, if it was the last. None where there is no field,
-- or it is not of the form.
unfoldable pub field_as : {A : Type 0} → (List ℕ → Option A) → List ℕ → ℕ → Option (A × ℕ)
field_as read s a =
    let e = find_from tab_byte s a in
    cond (leb a (length s)) (option_map (λ v. (v, e + 1)) (read (part s a e))) None
