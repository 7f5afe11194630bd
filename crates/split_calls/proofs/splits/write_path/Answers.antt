use native.Mathlib.Omega.{arith}
use Rattle.lists.specs.TabLaws.{tab_none, tab_more, tab_all}
use Rattle.paper.specs.Paths.{split_on_path}
use Rattle.split_calls.proofs.splits.write_path.Goals as goal

pub loop-g-init : goal.loop-g-init
loop-g-init c = tab_none _ c.args.out.now

pub loop-g-preserved : goal.loop-g-preserved
loop-g-preserved c =
    let a = c.args in
    let l = c.loop-g in
    tab_more (split_on_path a.choice.n a.choice.k a.p) l.out l.g c.split_on_path.result (omega arith) l.invariant c.split_on_path.ensures

pub returns : goal.returns
returns c =
    let a = c.args in
    let l = c.loop-g in
    tab_all (split_on_path a.choice.n a.choice.k a.p) l.out l.g a.choice.n l.invariant (omega arith) (omega arith)
