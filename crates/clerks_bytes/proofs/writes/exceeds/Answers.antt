use Rattle.clerks_bytes.proofs.WriteLaws.{exceeds_written}
use Rattle.clerks_bytes.proofs.writes.exceeds.Goals as goal

pub returns : goal.returns
returns c = exceeds_written c.args.frame.now c.args.p c.args.q c.first_write.ensures c.fields_of-base.ensures c.from-wanted.ensures c.from-role.ensures c.merged_attendees.ensures
