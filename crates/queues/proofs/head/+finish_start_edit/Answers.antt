use Rattle.state.specs.Values.{name_of}
use Rattle.queues.specs.Heads.{rejection_of}
use Rattle.machine.proofs.Runs as runs
use Rattle.queues.proofs.Starts as starts
use native.Mathlib.Omega.{arith}
use Rattle.queues.proofs.head.+finish_start_edit.Goals as goal

pub finish-returns-then-n-eq0 : goal.finish-returns-then-n-eq0
finish-returns-then-n-eq0 t c = starts.finish_none (name_of c.args.name.bytes) (rejection_of c.args.frame.now c.args.ending) c.waiting_count-n.ensures c.if-n-eq0.true

pub finish-start_edit-requires : goal.finish-start_edit-requires
finish-start_edit-requires t c = (starts.falls c.args.name.bytes c.args.work.now _ c.waiting_count-n.result t c.requires.has_state c.waiting_count-n.ensures c.if-n-eq0.false c.remove_entry.ensures c.decreases, (runs.edited c.remove_entry.ensures c.requires.has_state, c.requires.named))

pub finish-returns : goal.finish-returns
finish-returns t c = starts.finish_next (name_of c.args.name.bytes) (rejection_of c.args.frame.now c.args.ending) c.waiting_count-n.ensures c.if-n-eq0.false c.notify-q.ensures c.remove_entry.ensures c.start_edit.ensures

pub start_edit-returns-in-Nothing : goal.start_edit-returns-in-Nothing
start_edit-returns-in-Nothing t c = starts.start_nothing (name_of c.args.name.bytes) c.begins-beginning.ensures c.in-Nothing.is

pub start_edit-returns-in-Create : goal.start_edit-returns-in-Create
start_edit-returns-in-Create t c = starts.start_create (name_of c.args.name.bytes) c.begins-beginning.ensures c.in-Create.is c.requires.has_state c.request_create.ensures

pub start_edit-returns-in-Read : goal.start_edit-returns-in-Read
start_edit-returns-in-Read t c = starts.start_read (name_of c.args.name.bytes) c.begins-beginning.ensures c.in-Read.is c.read_for_edit.ensures

pub start_edit-finish-requires : goal.start_edit-finish-requires
start_edit-finish-requires t c = (omega (arith, c.decreases), (c.requires.has_state, c.requires.named))

pub start_edit-returns-in-NotOwner : goal.start_edit-returns-in-NotOwner
start_edit-returns-in-NotOwner t c = starts.start_finish (name_of c.args.name.bytes) c.begins-beginning.ensures c.in-NotOwner.is c.finish.ensures
