use Rattle.passes.proofs.Passing as passing
use Rattle.observe.proofs.Observing as observing
use Rattle.passes.proofs.requests.request_list.Goals as goal

pub ask_from-pen-requires : goal.ask_from-pen-requires
ask_from-pen-requires c = observing.still c.reserve-q.ensures c.requires

pub returns : goal.returns
returns c = passing.asked_from c.next_request-id.result c.requires c.next_request-id.ensures c.reserve-q.ensures c.pen_of.ensures c.ask_from-pen.ensures c.sent.ensures
