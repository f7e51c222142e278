use Rattle.attendees.proofs.judging.reply_if.Goals as goal

pub returns-then-ours : goal.returns-then-ours
returns-then-ours c = rw c.if-ours.true c.reply.ensures

pub returns : goal.returns
returns c = rw c.if-ours.false c.reply-2.ensures
