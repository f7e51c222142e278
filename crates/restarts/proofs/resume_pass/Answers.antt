use mathlib.Core.Bool.{not}
use mathlib.Core.Path.{ap}
use Rattle.restarts.proofs.Laws as laws
use borrow.Author.Tests.{not-true, not-false}
use Rattle.restarts.proofs.resume_pass.Goals as goal

pub returns-then-not-is_open : goal.returns-then-not-is_open
returns-then-not-is_open c = laws.pass_closed c.is_open.ensures (not-true _ (ap not c.if-not-is_open.true))

pub returns-then-is_done : goal.returns-then-is_done
returns-then-is_done c = laws.pass_listed c.is_open.ensures (not-false _ (ap not c.if-not-is_open.false)) c.is_done.ensures c.if-is_done.true c.read_unread.ensures

pub read_unread-requires-2 : goal.read_unread-requires-2
read_unread-requires-2 c = c.request_list-q.ensures.state c.requires

pub returns : goal.returns
returns c = laws.pass_asks c.is_open.ensures (not-false _ (ap not c.if-not-is_open.false)) c.is_done.ensures c.if-is_done.false c.request_list-q.ensures c.read_unread-2.ensures
