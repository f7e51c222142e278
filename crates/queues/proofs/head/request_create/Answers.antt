use Rattle.state.specs.Values.{name_of}
use Rattle.queues.proofs.Notices as notices
use Rattle.queues.proofs.head.request_create.Goals as goal

pub send_create-requires : goal.send_create-requires
send_create-requires c = record { has_state = (c.reserve-q.ensures.does c.args.out.now).state c.requires.has_state; named = c.requires.named }

pub returns : goal.returns
returns c = λ event R. notices.created_request (name_of c.args.name.bytes) event c.next_request-id.ensures c.reserve-q.ensures c.send_create.ensures R
