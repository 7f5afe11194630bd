use mathlib.Core.Path.{◌≡◌, refl, sym, ap, ◌∙◌}
use Prim.Native.Nat.{◌+◌}
use native.Mathlib.Omega.{arith}
use lib.Dec.{ltb}
use Rattle.std.proofs.Common.{rules, tests}
use Rattle.std.specs.Option.{option_map}
use Rattle.std.proofs.lemmas.Iterator.{YieldsList-from_range}
use Rattle.std.proofs.lemmas.Iterator.Adapters.{option_map_id}
use Rattle.std.proofs.lemmas.Iterator.Search.{find_from_yields_List}
use Rattle.paper.specs.Folds.{even_border}
use Rattle.std.specs.Prelude.{Option}
use Rattle.paper.specs.declared.numbers.FoldNumber.{FoldNumber}
use Rattle.folds.proofs.FoundLaws.{found_is}
use Rattle.folds.proofs.fold_of_row.Goals as goal

pub returns : goal.returns
returns c =
    let g = c.args in
    let e =
    find_from_yields_List (λ f. ltb g.row (even_border g.n g.folds (f + 1))) _ _ c.find.result c.find.ensures.ran (YieldsList-from_range 0 g.folds g.folds refl (omega arith)) (λ x b q k. search (rules, tests))
    in
    let m : ◌≡◌ {A = Option FoldNumber} c.map.result (option_map (λ f. record { 0 = f }) c.find.result) = search rules in
    m ∙ ap (option_map (λ f. record { 0 = f })) (sym (option_map_id c.find.result) ∙ e) ∙ found_is g.n g.folds g.row
