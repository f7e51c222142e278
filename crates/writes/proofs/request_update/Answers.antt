use Rattle.writes.proofs.Requests as requests
use Rattle.machine.proofs.Steps as steps
use Rattle.writes.proofs.request_update.Goals as goal

pub update-pen-requires : goal.update-pen-requires
update-pen-requires c = steps.short_text _ _ c.text_of.ensures c.requires.named

pub returns : goal.returns
returns c = requests.updates _ c.next_request-id.ensures c.reserve-q.ensures c.text_of.ensures c.pen_of.ensures c.update-pen.ensures c.sent.ensures
