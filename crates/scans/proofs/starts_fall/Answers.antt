use lib.Signed.{le_z}
use Rattle.std.proofs.Common.{rules, tests}
use Rattle.std.proofs.lemmas.Fn.{always_returns_same}
use Rattle.scans.proofs.FallLaws.{fall_found}
use Rattle.scans.proofs.starts_fall.Goals as goal

pub returns : goal.returns
returns c =
    fall_found c.args.starts.now c.is_sorted_by.result
    (c.is_sorted_by.ensures.cases (λ a b. le_z a b) (always_returns_same _ _ _ (λ a r q k. search (rules, tests))))
