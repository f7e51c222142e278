use Prim.Native.Nat.{◌+◌, ◌*◌}
use Rattle.queues.proofs.Starts as starts
use Rattle.queues.proofs.head.+finish_start_edit.Given as goal

abbrev pub decreases-finish : goal.decreases-finish
decreases-finish l = 2 * starts.queue_length l.name.bytes l.work.now

abbrev pub decreases-start_edit : goal.decreases-start_edit
decreases-start_edit l = 2 * starts.queue_length l.name.bytes l.work.now + 1
