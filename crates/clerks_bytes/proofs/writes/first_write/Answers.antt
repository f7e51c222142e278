use Rattle.clerks_bytes.proofs.WriteLaws.{first_written}
use borrow.Author.Rules.{rules}
use Rattle.clerks_bytes.proofs.writes.first_write.Goals as goal

pub returns : goal.returns
returns c = first_written c.args.frame.now c.args.p c.fields_of-base.ensures c.from-wanted.ensures c.from-role.ensures (search rules) c.merged_event.ensures
