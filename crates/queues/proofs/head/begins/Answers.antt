use mathlib.Core.Bool.{true, false}
use mathlib.Core.Path.{ap, ◌∙◌}
use Rattle.std.specs.Prelude.{Some}
use Rattle.state.specs.Values.{name_of}
use Rattle.queues.proofs.Starts as starts
use Rattle.queues.proofs.head.begins.Goals as goal

pub returns-in-None : goal.returns-in-None
returns-in-None c = starts.begin_none (name_of c.args.name.bytes) c.operation_case.ensures c.in-None.is

pub returns-then-looks_up : goal.returns-then-looks_up
returns-then-looks_up c = starts.begin_write (name_of c.args.name.bytes) c.operation_case.ensures true (c.in-Some-Create.is ∙ ap Some c.in-Some-Create.field-0-is) c.looks_up.ensures c.if-looks_up.true

pub returns-else-looks_up : goal.returns-else-looks_up
returns-else-looks_up c = starts.begin_write (name_of c.args.name.bytes) c.operation_case.ensures false (c.in-Some-Create.is ∙ ap Some c.in-Some-Create.field-0-is) c.looks_up.ensures c.if-looks_up.false

pub returns-in-Some-Update : goal.returns-in-Some-Update
returns-in-Some-Update c = starts.begin_read (name_of c.args.name.bytes) c.operation_case.ensures (c.in-Some-Update.is ∙ ap Some c.in-Some-Update.field-0-is)

pub returns-then-is_attendee : goal.returns-then-is_attendee
returns-then-is_attendee c = starts.begin_delete (name_of c.args.name.bytes) c.operation_case.ensures true (c.in-Some-Delete.is ∙ ap Some c.in-Some-Delete.field-0-is) c.is_attendee.ensures c.if-is_attendee.true

pub returns-else-is_attendee : goal.returns-else-is_attendee
returns-else-is_attendee c = starts.begin_delete (name_of c.args.name.bytes) c.operation_case.ensures false (c.in-Some-Delete.is ∙ ap Some c.in-Some-Delete.field-0-is) c.is_attendee.ensures c.if-is_attendee.false
