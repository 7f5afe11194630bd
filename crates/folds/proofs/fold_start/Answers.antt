-- The border by a product and a remainder: `even_border_closed`. Nothing wraps, as no border lies past the rows.
use mathlib.Core.Path.{sym}
use native.Mathlib.Omega.{arith}
use Rattle.paper.proofs.FoldsMeaning.{even_border_closed, even_border-le}
use Rattle.folds.proofs.fold_start.Goals as goal

pub overflow_mul-result : goal.overflow_mul-result
overflow_mul-result c = omega (arith, even_border-le c.args.n c.args.folds c.args.f c.requires.1)

pub overflow_add-result : goal.overflow_add-result
overflow_add-result c = omega (arith, even_border-le c.args.n c.args.folds c.args.f c.requires.1)

pub returns : goal.returns
returns c =
    rw c.min.ensures (sym (even_border_closed c.args.n c.args.folds c.args.f))
