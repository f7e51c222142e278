use Rattle.state.specs.Values.{name_of}
use Rattle.queues.specs.Heads.{rejection_of, notify_first}
use Rattle.machine.specs.Contract.{Does}
use Rattle.queues.proofs.telling.notify.Given as goal

abbrev pub invariant-loop-k : goal.invariant-loop-k
invariant-loop-k l = Does (notify_first l.j l.k (name_of l.name.bytes) (rejection_of l.frame l.ending)) l.work l.initial.out l.initial.q l.q l.work l.out
