-- Of 01's checks those that concern a fraction of n rows, in its order (01, "Purge, embargo, marks" and "Refusal numbers").
use Rattle.std.specs.Prelude.{ℕ, List, [], ◌∷◌, Float}
use Rattle.paper.specs.Checks.{Check, too_many_rows, bad_fraction}

abbrev pub width_checks : Float → ℕ → List Check
width_checks x n = too_many_rows n ∷ bad_fraction x ∷ []
