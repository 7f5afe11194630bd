-- The two sides of the test: bits of a NaN, for which there is one value, and others.
use lib.Ieee.{of_bits}
use Rattle.text.proofs.NanLaws.{nan_above, nan_not}
use native.Mathlib.Omega.{arith}
use Rattle.text.proofs.of_bits.Goals as goal

pub returns-then-bits-gt9218868437227405312 : goal.returns-then-bits-gt9218868437227405312
unfolding of_bits
returns-then-bits-gt9218868437227405312 c = nan_above c.args.bits (omega arith)

pub float_from_bits-result : goal.float_from_bits-result
float_from_bits-result c = nan_not c.args.bits (omega arith)
