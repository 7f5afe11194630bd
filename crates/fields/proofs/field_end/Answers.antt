-- The end lies where the search ends: not before the field, not past the line.
use Rattle.fields.proofs.FieldLaws.{find_ge, find_le}
use Rattle.fields.proofs.field_end.Goals as goal

pub returns : goal.returns
returns c =
    record {
      place = c.find.ensures;
      low = rw c.find.ensures (find_ge _ _ _);
      high = rw c.find.ensures (find_le _ _ _ c.requires);
    }
