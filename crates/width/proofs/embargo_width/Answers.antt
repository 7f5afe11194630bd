-- Each way out is what the chain of checks gives there.
use Rattle.std.proofs.Common.{sym, ◌∙◌, le-ltb, lt-ltb}
use Rattle.paper.specs.Checks.{checked}
use Rattle.width.proofs.embargo_width.Goals as goal

pub returns-then-n-gt-MAX_ROWS : goal.returns-then-n-gt-MAX_ROWS
unfolding checked
returns-then-n-gt-MAX_ROWS c = simp (lt-ltb _ _ c.if-n-gt-MAX_ROWS.true)

pub rounded_up-requires : goal.rounded_up-requires
rounded_up-requires c =
    record { fraction_value = sym c.is_fraction.ensures ∙ c.if-is_fraction.true; n_bound = c.if-n-gt-MAX_ROWS.false }

pub returns-then-is_fraction : goal.returns-then-is_fraction
unfolding checked
returns-then-is_fraction c =
    simp
    (le-ltb _ _ c.if-n-gt-MAX_ROWS.false, sym c.is_fraction.ensures ∙ c.if-is_fraction.true, c.rounded_up.ensures)

pub returns-else-is_fraction : goal.returns-else-is_fraction
unfolding checked
returns-else-is_fraction c = simp (le-ltb _ _ c.if-n-gt-MAX_ROWS.false, sym c.is_fraction.ensures ∙ c.if-is_fraction.false)
