use Rattle.frame.proofs.Cursor.fields.Goals as goal

pub returns : goal.returns
returns c = record { place = c.skip_fields-next.ensures; is = c.to-value.ensures }
