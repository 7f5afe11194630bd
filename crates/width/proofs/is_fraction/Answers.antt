-- `width::is_fraction` meets its contract: on the way where the first test passes the answer is the second test, and on the other it is the first, which failed.
-- Either is the two together, and `test_is` says that those are the paper's test.
use Rattle.std.proofs.Common.{◌≡◌, Bool, true, false, ◌&&◌, T, sym, ap, ◌∙◌}
use lib.Ieee.{binary64, fits, of_bits, le, lt}
use denote.Floats.{passes}
use Rattle.width.proofs.Tested.{test_is}
use Rattle.width.proofs.is_fraction.Goals as goal
use Rattle.width.proofs.is_fraction.Goals.{Start}

both_when_true : (a b : Bool) → a ≡ true → b ≡ a && b
both_when_true a b e = sym (ap (λ (x : Bool). x && b) e)

fine : (s : Start) → T (fits binary64 s.args.x)
fine s = passes (fits binary64 s.args.x) s.well_formed.0.1

pub returns-then-x : goal.returns-then-x
returns-then-x c =
    let x = c.args.x in
    both_when_true (le (of_bits binary64 0) x) (lt x (of_bits binary64 0x3ff0_0000_0000_0000)) c.if-x.true ∙ test_is x (fine (goal.at.returns-then-x c).Start)

both_when_false : (a b : Bool) → a ≡ false → a ≡ a && b
both_when_false a b e = e ∙ sym (ap (λ (x : Bool). x && b) e)

pub returns-else-x : goal.returns-else-x
returns-else-x c =
    let x = c.args.x in
    both_when_false (le (of_bits binary64 0) x) (lt x (of_bits binary64 0x3ff0_0000_0000_0000)) c.if-x.false ∙ test_is x (fine (goal.at.returns-else-x c).Start)
