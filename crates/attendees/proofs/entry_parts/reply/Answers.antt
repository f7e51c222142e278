use Rattle.attendees.proofs.Laws as laws
use borrow.Author.Rules.{rules}
use Rattle.attendees.proofs.entry_parts.reply.Goals as goal

pub returns-then-entry-lt2 : goal.returns-then-entry-lt2
returns-then-entry-lt2 c = laws.reply_short c.args.entry.now (search rules)

pub returns : goal.returns
returns c = laws.reply_long c.args.entry.now (search rules)
