use mathlib.Core.Path.{◌≡◌, ◌∙◌}
use lib.ListN.{length}
use Rattle.std.proofs.Common.{rules, tests}
use Rattle.std.proofs.lemmas.Iterator.{YieldsList-from_slice, YieldsList-from_zip}
use Rattle.std.proofs.lemmas.Iterator.Search.{position_from_yields_List}
use Rattle.scans.proofs.BackwardLaws.{back, found_back}
use Rattle.scans.proofs.first_backward.Goals as goal

pub returns : goal.returns
returns c =
    let t = c.args.table.now in
    let same : length t.starts.now ≡ length t.ends.now = search rules in
    position_from_yields_List back c.position.new.self _ c.position.result c.position.ensures.ran
    (YieldsList-from_zip (YieldsList-from_slice t.starts.now cc) (YieldsList-from_slice t.ends.now cc))
    (λ x b q k. search (rules, tests))
    ∙ found_back t.starts.now t.ends.now same
