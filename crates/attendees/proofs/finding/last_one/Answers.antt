use Rattle.attendees.proofs.finding.last_one.Goals as goal

pub returns-then-b : goal.returns-then-b
returns-then-b c = rw c.if-b.true
