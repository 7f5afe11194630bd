use native.Mathlib.Omega.{arith}
use mathlib.Core.Path.{sym, ◌∙◌}
use Rattle.paper.proofs.Listing.{hold, hold-choose}
use Rattle.sets.proofs.paths.holding.Goals as goal

pub returns-then-k-eq0 : goal.returns-then-k-eq0
unfolding hold
returns-then-k-eq0 c = rw c.if-k-eq0.true

pub returns-else-k-eq0 : goal.returns-else-k-eq0
returns-else-k-eq0 c =
    c.n_choose_k.ensures ∙ sym (hold-choose c.args.n c.args.k (omega arith) (omega arith))
