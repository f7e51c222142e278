use Rattle.queues.proofs.Writers as writers
use Rattle.queues.proofs.writing.put_operation.Goals as goal

pub returns-in-Create : goal.returns-in-Create
returns-in-Create c = writers.operation_create c.args.frame.now c.args.operation c.requires.0 c.requires.1 c.start.ensures c.in-Create.event c.in-Create.is c.event_at-bytes.ensures c.byte.ensures c.part-end.ensures

pub returns-in-Update : goal.returns-in-Update
returns-in-Update c = writers.operation_update c.args.frame.now c.args.operation c.requires.0 c.requires.1 c.start-in-Update.ensures c.in-Update.base c.in-Update.ours c.in-Update.is c.fields_at-from.ensures c.fields_at-to.ensures c.byte-in-Update.ensures c.part.ensures c.part-end-in-Update.ensures

pub returns-in-Delete : goal.returns-in-Delete
returns-in-Delete c = writers.operation_delete c.args.frame.now c.args.operation c.requires.0 c.requires.1 c.start-in-Delete.ensures c.in-Delete.is c.byte-end.ensures
