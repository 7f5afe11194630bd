-- The buffer is filled place by place with the rows of the folds.
use mathlib.Core.Path.{◌≡◌}
use lib.ListN.{length}
use Rattle.blocks.specs.Held.{firsts, pasts}
use Rattle.layouts.specs.Tested.{RangesOf}
use Rattle.layouts.proofs.fold_ranges.Given as goal

abbrev pub invariant-loop-j : goal.invariant-loop-j
invariant-loop-j l = record {
  room : length l.buffer ≡ 64;
  ranges : RangesOf l.n l.folds l.fn.set (firsts l.buffer) (pasts l.buffer) l.j;
}
