-- The buffer is filled place by place.
use mathlib.Core.Path.{◌≡◌}
use Prim.Native.Nat.{ℕ, ◌<◌}
use lib.ListN.{length}
use Rattle.spans.specs.Tables.{table_of}
use Rattle.blocks.specs.Held.{range_at, block_at, BoundOf}
use Rattle.blocks.proofs.bound_blocks.Given as goal

abbrev pub invariant-loop-j : goal.invariant-loop-j
invariant-loop-j l = record {
  room : length l.buffer ≡ 64;
  bound : (k : ℕ) → k < l.j → BoundOf l.rule (table_of l.table) (range_at l.blocks k) (block_at l.buffer k);
}
