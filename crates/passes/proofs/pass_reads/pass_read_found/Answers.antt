use Rattle.passes.proofs.Answering as answering
use Rattle.observe.proofs.Observing as observing
use Rattle.passes.proofs.pass_reads.pass_read_found.Goals as goal

pub doubtful-requires : goal.doubtful-requires
doubtful-requires c = record { has_state = c.requires.has_state; named = c.requires.named.0 }

pub doubt-requires : goal.doubt-requires
doubt-requires c = record { has_state = c.requires.has_state; named = c.requires.named.0 }

pub returns-then-doubtful : goal.returns-then-doubtful
returns-then-doubtful c = answering.read_doubted c.args.id _ _ c.doubtful.ensures c.if-doubtful.true c.doubt.ensures

pub listed_unread-listed-requires : goal.listed_unread-listed-requires
listed_unread-listed-requires c = record { has_state = c.requires.has_state; named = c.requires.named.0 }

pub remove-requires : goal.remove-requires
remove-requires c = record { has_state = observing.still c.observe_read-q.ensures c.requires.has_state; named = c.requires.named.0 }

pub returns-then-listed : goal.returns-then-listed
returns-then-listed c = answering.read_listed c.args.id _ _ c.doubtful.ensures c.if-doubtful.false c.listed_unread-listed.ensures c.observe_read-q.ensures c.if-listed.true c.remove.ensures

pub returns-else-listed : goal.returns-else-listed
returns-else-listed c = answering.read_unlisted c.args.id _ _ c.doubtful.ensures c.if-doubtful.false c.listed_unread-listed.ensures c.observe_read-q.ensures c.if-listed.false
