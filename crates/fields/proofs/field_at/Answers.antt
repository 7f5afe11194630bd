-- The field is cut out where it ends, and read.
use native.Mathlib.Omega.{arith}
use Rattle.fields.proofs.FieldLaws.{field_none, field_is, field_bad}
use Rattle.fields.proofs.field_at.Goals as goal

pub returns-then-s-from : goal.returns-then-s-from
returns-then-s-from g c = field_none g.T.Spelled.spelled _ _ c.if-s-from.true

pub returns-in_err-value : goal.returns-in_err-value
returns-in_err-value g c =
    rw c.from_residual.ensures (field_bad g.T.Spelled.spelled _ _ _ (omega arith) c.field_end-end.ensures.place c.in_err-value.ensures)

pub returns : goal.returns
returns g c = field_is g.T.Spelled.spelled _ _ _ (omega arith) c.field_end-end.ensures.place _ c.in_ok-value.ensures
