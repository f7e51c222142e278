use Rattle.access.proofs.Laws.{no_number, number_read, flight_room}
use native.Mathlib.Omega.{arith}
use Rattle.access.proofs.flight.Goals as goal

pub returns-then-n-i : goal.returns-then-n-i
returns-then-n-i c = no_number c.args.state.now c.in_flight_count-n.result c.args.i c.in_flight_count-n.ensures c.if-n-i.true

pub overflow_mul-past : goal.overflow_mul-past
overflow_mul-past c = let m = flight_room c.args.state.now c.in_flight_count-n.result c.args.i c.requires c.in_flight_count-n.ensures c.if-n-i.false in omega arith

pub overflow_add-at : goal.overflow_add-at
overflow_add-at c = let m = flight_room c.args.state.now c.in_flight_count-n.result c.args.i c.requires c.in_flight_count-n.ensures c.if-n-i.false in omega arith

pub get_be-number-requires : goal.get_be-number-requires
get_be-number-requires c = let m = flight_room c.args.state.now c.in_flight_count-n.result c.args.i c.requires c.in_flight_count-n.ensures c.if-n-i.false in omega arith

pub returns : goal.returns
returns c = number_read c.args.state.now c.in_flight_count-n.result c.args.i c.get_be-number.result c.in_flight_count-n.ensures c.if-n-i.false c.get_be-number.ensures
