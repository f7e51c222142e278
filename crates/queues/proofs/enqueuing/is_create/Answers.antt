use Rattle.queues.proofs.Queueing as queueing
use Rattle.queues.proofs.enqueuing.is_create.Goals as goal

pub returns-in-Create : goal.returns-in-Create
returns-in-Create c = λ s. queueing.creates s c.in-Create._event c.in-Create.is

pub returns-in-Update : goal.returns-in-Update
returns-in-Update c = λ s. queueing.updates s c.in-Update._base c.in-Update._ours c.in-Update.is

pub returns-in-Delete : goal.returns-in-Delete
returns-in-Delete c = λ s. queueing.deletes s c.in-Delete.is
