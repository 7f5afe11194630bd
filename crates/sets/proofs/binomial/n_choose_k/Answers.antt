-- The place is one of the table, and what stands there is C(n,k): both are laws of TableLaws. Past the row there is no set.
use native.Mathlib.Omega.{arith}
use mathlib.Core.Path.{sym}
use Rattle.paper.proofs.Listing.{choose_past}
use Rattle.paper.proofs.Rows.{next}
use Rattle.sets.proofs.TableLaws.{rows_from, triangle, triangle_at, triangle_room}
use Rattle.sets.proofs.binomial.n_choose_k.Goals as goal

pub bounds-n : goal.bounds-n
bounds-n c = omega (arith, triangle_room c.args.n c.requires)

pub returns-then-n-k : goal.returns-then-n-k
returns-then-n-k c = sym (choose_past _ _ c.if-n-k.true)

pub returns-else-n-k : goal.returns-else-n-k
unfolding triangle rows_from next
returns-else-n-k c = triangle_at c.args.n c.args.k c.requires (omega arith)
