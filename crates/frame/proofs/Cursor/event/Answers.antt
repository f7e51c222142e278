use Rattle.frame.proofs.Cursor.event.Goals as goal

pub returns : goal.returns
returns c = record { place = c.skip_event-next.ensures; is = c.to-value.ensures }
