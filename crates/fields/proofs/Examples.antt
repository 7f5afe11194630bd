-- Worked examples of fields and lines, by computation (01, "Report program"). Bytes are written as numbers: 9 is the tab, 10 the LF.
use mathlib.Core.Path.{◌≡◌, refl}
use mathlib.Core.List.{[], ◌∷◌}
use Rattle.std.specs.Prelude.{None, Some}
use Rattle.lists.specs.Base.{first_from}
use Rattle.text.specs.Numbers.{digit_of, behind, decimal_of}
use Rattle.fields.specs.Parts.{parts_of, ended, behind_last, find_from, fields_of, lines_of, rest_of, field_as}

-- A tab at the end begins one more field, which is empty. An LF at the end begins no line.
parts :
    (fields_of (80 ∷ 9 ∷ 54 ∷ 9 ∷ []) ≡ (80 ∷ []) ∷ (54 ∷ []) ∷ [] ∷ [])
    × (fields_of [] ≡ [] ∷ [])
    × (lines_of (80 ∷ 10 ∷ 10 ∷ []) ≡ (80 ∷ []) ∷ [] ∷ [])
    × (rest_of (80 ∷ 10 ∷ 10 ∷ []) ≡ [])
    × (lines_of (80 ∷ 10 ∷ 76 ∷ []) ≡ (80 ∷ []) ∷ [])
    × (rest_of (80 ∷ 10 ∷ 76 ∷ []) ≡ 76 ∷ [])
unfolding parts_of ended behind_last
parts = (refl, refl, refl, refl, refl, refl)

-- The fields of `6 7` in turn: the second is the last, and behind it there is none.
fields :
    (field_as decimal_of (54 ∷ 9 ∷ 55 ∷ []) 0 ≡ Some (6, 2))
    × (field_as decimal_of (54 ∷ 9 ∷ 55 ∷ []) 2 ≡ Some (7, 4))
    × (field_as decimal_of (54 ∷ 9 ∷ 55 ∷ []) 4 ≡ None)
unfolding field_as find_from first_from decimal_of behind digit_of
fields = (refl, refl, refl)
