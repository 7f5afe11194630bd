use native.Mathlib.Omega.{arith}
use borrow.Author.Rules.{rules}
use lib.ListN.{length}
use lib.Seq.{get_or-take}
use Rattle.std.proofs.lemmas.List.{length-take-le}
use Rattle.lists.specs.StoreLaws.{stored_up}
use Rattle.spans.specs.Tables.{table_of}
use Rattle.blocks.specs.Held.{range_at, BoundOf}
use Rattle.blocks.proofs.bound_blocks.Goals as goal

pub bound_block-requires : goal.bound_block-requires
bound_block-requires c =
    let w = c.requires.blocks in (w.some c.loop-j.j (omega arith), w.fits c.loop-j.j (omega arith))

pub loop-j-init : goal.loop-j-init
loop-j-init c = record { room = search rules; bound = λ k h. absurd (omega arith) }

pub loop-j-preserved : goal.loop-j-preserved
loop-j-preserved c =
    let g = c.args in
    let l = c.loop-j in
    record {
      room = search rules;
      bound =
          stored_up (λ k b. BoundOf g.rule (table_of g.table.now) (range_at g.blocks.now k) b) l.buffer _ l.j _ (omega arith)
          c.bound_block.ensures l.invariant.bound;
    }

pub returns : goal.returns
returns c =
    let l = c.loop-j in
    let n = length c.args.blocks.now in
    record {
      many = length-take-le n l.buffer (omega arith);
      each = λ j h. rw (get_or-take n l.buffer j _ h) (l.invariant.bound j (omega arith));
    }
