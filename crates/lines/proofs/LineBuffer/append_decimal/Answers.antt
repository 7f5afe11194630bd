-- The kit writes the digits; a law says that they are the decimal.
use native.Mathlib.Omega.{arith}
use Rattle.lines.proofs.DigitsLaws.{decimal_digits}
use Rattle.lines.proofs.LineBuffer.append_decimal.Goals as goal

pub returns-clause-written : goal.returns-clause-written
returns-clause-written c =
    let n = c.args.n in
    rw (decimal_digits n c.decimal-k.result _ (omega arith) c.decimal-k.ensures.len c.decimal-k.ensures.digits) at c.append.ensures.written
