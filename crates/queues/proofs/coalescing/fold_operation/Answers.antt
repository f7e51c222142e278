use Rattle.frame.specs.Meaning.{event_at}
use Rattle.queues.proofs.Folding as folding
use Rattle.queues.proofs.coalescing.fold_operation.Goals as goal

pub returns-in-Create : goal.returns-in-Create
returns-in-Create c = folding.next_is c.args.frame.now c.args.deletes c.in-Create.is (folding.create_apart c.args.work.now c.args.at c.args.deletes (event_at c.args.frame.now c.in-Create._event))

pub fold_update-requires : goal.fold_update-requires
fold_update-requires c = (c.requires.0, c.requires.1, (folding.update_parts c.args.frame.now c.in-Update.from c.in-Update.to c.in-Update.is c.requires.2).0, (folding.update_parts c.args.frame.now c.in-Update.from c.in-Update.to c.in-Update.is c.requires.2).1)

pub returns-in-Update : goal.returns-in-Update
returns-in-Update c = folding.next_is c.args.frame.now c.args.deletes c.in-Update.is (c.fold_update.ensures c.args.deletes)

pub returns-in-Delete : goal.returns-in-Delete
returns-in-Delete c = folding.next_is c.args.frame.now c.args.deletes c.in-Delete.is c.fold_delete.ensures
