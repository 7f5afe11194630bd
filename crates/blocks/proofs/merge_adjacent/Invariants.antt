-- Each range is joined to the blocks of those before it: `joins_more`.
use mathlib.Core.Path.{◌≡◌}
use Prim.Native.Nat.{◌≤◌}
use lib.ListN.{length}
use Rattle.blocks.specs.Held.{firsts, pasts}
use Rattle.blocks.specs.Joined.{Joins}
use Rattle.blocks.proofs.merge_adjacent.Given as goal

abbrev pub invariant-loop-range : goal.invariant-loop-range
invariant-loop-range l = record {
  few : l.blocks ≤ l.range-index;
  room : length l.buffer ≡ 64;
  joins : Joins (firsts l.ranges) (pasts l.ranges) l.range-index (firsts l.buffer) (pasts l.buffer) l.blocks;
}
