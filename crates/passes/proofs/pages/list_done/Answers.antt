use Rattle.machine.proofs.Runs as runs
use Rattle.passes.proofs.Passing as passing
use Rattle.passes.proofs.pages.list_done.Goals as goal

pub is_full-requires : goal.is_full-requires
is_full-requires c = runs.edited c.set_done.ensures c.requires.has_state

pub next_request-next-requires : goal.next_request-next-requires
next_request-next-requires c = runs.edited c.set_done.ensures c.requires.has_state

pub set_learned_all-requires : goal.set_learned_all-requires
set_learned_all-requires c = runs.edited c.set_done.ensures c.requires.has_state

pub returns-then-is_full : goal.returns-then-is_full
returns-then-is_full c = passing.done_full c.args.cursor.now c.set_done.ensures c.is_full.ensures c.next_request-next.result c.if-is_full.true c.next_request-next.ensures c.set_learned_all.ensures

pub returns : goal.returns
returns c = passing.done_part c.args.cursor.now c.set_done.ensures c.is_full.ensures c.if-is_full.false
