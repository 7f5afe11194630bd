-- What each call on splits and paths comes to: its checks, then its result (01, "Combinations and paths" and "Refusal
-- numbers"). The contracts of the public calls cite these.
use Rattle.std.specs.Prelude.{List, ℕ, length, Option}
use Prim.{Unit, tt}
use Rattle.paper.specs.declared.numbers.FoldSet.{FoldSet}
use Rattle.paper.specs.Sets.{choose, entry}
use Rattle.paper.specs.Paths.{paths, split_on_path, path_of}
use Rattle.paper.specs.Handed.{handed}
use Rattle.paper.specs.Places.{place_of, next_folds}
use Rattle.paper.specs.Refusals.{Outcome}
use Rattle.paper.specs.Checks.{checked, lent, numbers_checks, split_checks, set_checks, path_checks, whole_path_checks}

-- How many splits, and how many paths.
abbrev pub split_count : ℕ → ℕ → Outcome ℕ
split_count N k = checked (numbers_checks N k) (choose N k)

abbrev pub path_count : ℕ → ℕ → Outcome ℕ
path_count N k = checked (numbers_checks N k) (paths N k)

-- The folds of split s, handed out.
abbrev pub split_folds : ℕ → ℕ → ℕ → Outcome FoldSet
split_folds N k s = checked (split_checks N k s) (handed (entry N k s))

-- The number of a fold set.
abbrev pub set_number : ℕ → ℕ → List ℕ → Outcome ℕ
set_number N k set = checked (set_checks N k set) (place_of N k set)

-- The set after this one, handed out; none after the last.
abbrev pub set_next : ℕ → ℕ → List ℕ → Outcome (Option FoldSet)
set_next N k set = checked (set_checks N k set) (next_folds N k set)

-- The split that path p takes for fold g.
abbrev pub path_split : ℕ → ℕ → ℕ → ℕ → Outcome ℕ
path_split N k p g = checked (path_checks N k p g) (split_on_path N k p g)

-- The whole path, and the lent list afterwards.
abbrev pub path_written : ℕ → ℕ → ℕ → ℕ → Outcome (Unit {0})
path_written N k p room = checked (whole_path_checks N k p room) tt

abbrev pub path_after : ℕ → ℕ → ℕ → List ℕ → List ℕ
path_after N k p path = lent (path_written N k p (length path)) path (path_of N k p)
