use Rattle.writes.proofs.Requests as requests
use Rattle.machine.proofs.Steps as steps
use Rattle.writes.proofs.request_delete.Goals as goal

pub delete-pen-requires : goal.delete-pen-requires
delete-pen-requires c = steps.short_text _ _ c.text_of.ensures c.requires.named

pub returns : goal.returns
returns c = requests.deletes _ c.next_request-id.ensures c.reserve-q.ensures c.text_of.ensures c.pen_of.ensures c.delete-pen.ensures c.sent.ensures
