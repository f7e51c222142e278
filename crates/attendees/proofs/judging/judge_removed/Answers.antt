use Rattle.attendees.proofs.Laws as laws
use Rattle.attendees.proofs.judging.judge_removed.Goals as goal

pub returns : goal.returns
returns c = laws.removed_is c.args.b.now c.args.o.now _ _ _ _ c.same_rest-refused.ensures c.reply.ensures c.reply-2.ensures c.differ-conflict.ensures
