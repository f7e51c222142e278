use Rattle.machine.proofs.Steps as steps
use Rattle.passes.proofs.Passing as passing
use Rattle.passes.proofs.requests.request_more.Goals as goal

pub list_continue-pen-requires : goal.list_continue-pen-requires
list_continue-pen-requires c = passing.short_enough c.args.cursor.now c.requires.ok

pub returns : goal.returns
returns c = steps.requested _ _ c.next_request-id.ensures c.reserve-q.ensures (steps.told c.pen_of.ensures c.list_continue-pen.ensures c.sent.ensures)
