-- Whether starts ever decrease: `falls` of a table, which looks at starts alone.
use Rattle.std.specs.Prelude.{Bool, List, ℕ, ◌+◌, ℤ, pos, get_or}
use Rattle.std.specs.Int.Signed.{lt_z}
use Rattle.paper.specs.Spans.{table}
use Rattle.laws.specs.Windows.{falls}

-- Row i + 1 starts earlier than row i.
abbrev pub is_fall : List ℤ → ℕ → Bool
is_fall starts i = lt_z (get_or starts (i + 1) (pos 0)) (get_or starts i (pos 0))

-- Some row does. The ends play no part.
abbrev pub starts_fall : List ℤ → Bool
starts_fall starts = falls (table starts starts)
