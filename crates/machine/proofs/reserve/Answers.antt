use Rattle.machine.proofs.Steps as steps
use Rattle.machine.proofs.Runs as runs
use Rattle.machine.proofs.reserve.Goals as goal

pub returns-then-id : goal.returns-then-id
returns-then-id c = steps.changed c.refuse.ensures (steps.no_number c.args.p _ c.next_request-id.result c.next_request-id.ensures c.if-id.true)

pub add_in_flight-within-requires : goal.add_in_flight-within-requires
add_in_flight-within-requires c = record { has_state = runs.edited c.set_next_request.ensures c.requires.has_state; named = c.requires.named }

pub returns : goal.returns
returns c = steps.changed c.tried.ensures (steps.numbered c.args.p _ c.next_request-id.result c.next_request-id.ensures c.if-id.false c.set_next_request.ensures c.add_in_flight-within.ensures)
