use Rattle.looks.proofs.Laws.{room_cursor, room_records, room_flights, room_queues, line_room, shows_line, same_after}
use native.Mathlib.Omega.{arith}
use borrow.Author.Rules.{rules}
use Rattle.looks.proofs.put_look.Goals as goal

pub put_cursor-cursor-requires : goal.put_cursor-cursor-requires
put_cursor-cursor-requires c = room_cursor c.args.state.now c.args.text.now c.args.at c.requires

pub put_records-records-requires : goal.put_records-records-requires
put_records-records-requires c = room_records c.args.state.now c.args.text.now c.args.at c.requires (search rules) c.put_cursor-cursor.ensures

pub put_flights-flights-requires : goal.put_flights-flights-requires
put_flights-flights-requires c = room_flights c.args.state.now c.args.text.now c.args.at c.requires (search rules) c.put_cursor-cursor.ensures (search rules) c.put_records-records.ensures

pub put_queues-end-requires : goal.put_queues-end-requires
put_queues-end-requires c = room_queues c.args.state.now c.args.text.now c.args.at c.requires (search rules) c.put_cursor-cursor.ensures (search rules) c.put_records-records.ensures (search rules) c.put_flights-flights.ensures

pub bounds-text-end : goal.bounds-text-end
bounds-text-end c = line_room c.args.state.now c.requires (search rules) (search rules) (search rules) (search rules) c.put_cursor-cursor.ensures c.put_records-records.ensures c.put_flights-flights.ensures c.put_queues-end.ensures

pub overflow_add-result : goal.overflow_add-result
overflow_add-result c = let h = line_room c.args.state.now c.requires (search rules) (search rules) (search rules) (search rules) c.put_cursor-cursor.ensures c.put_records-records.ensures c.put_flights-flights.ensures c.put_queues-end.ensures in omega arith

pub shape_of-text : goal.shape_of-text
shape_of-text c = same_after c.args.text.now c.put_cursor-cursor.new.text c.put_records-records.new.text c.put_flights-flights.new.text c.put_queues-end.new.text _ (search rules) (search rules) (search rules) (search rules)

pub returns : goal.returns
returns c = shows_line c.args.state.now c.requires (search rules) (search rules) (search rules) (search rules) c.put_cursor-cursor.ensures c.put_records-records.ensures c.put_flights-flights.ensures c.put_queues-end.ensures
