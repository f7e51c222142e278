use Rattle.observe.proofs.Reading as reading
use Rattle.observe.proofs.reads.doubt_in_pass.Goals as goal

pub read_unread-requires : goal.read_unread-requires
read_unread-requires c = (c.stage_unread-q.ensures.does c.args.out.now).state c.requires.has_state

pub returns-then-is_done : goal.returns-then-is_done
returns-then-is_done c = reading.doubt_done _ c.is_done.ensures c.if-is_done.true c.stage_unread-q.ensures c.read_unread.ensures

pub read_unread-requires-2 : goal.read_unread-requires-2
read_unread-requires-2 c = (c.watch-q.ensures.does c.args.out.now).state c.requires.has_state

pub returns : goal.returns
returns c = reading.doubt_listing _ c.is_done.ensures c.if-is_done.false c.watch-q.ensures c.read_unread-2.ensures
