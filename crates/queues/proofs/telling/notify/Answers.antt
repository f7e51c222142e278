use Rattle.state.specs.Values.{name_of}
use Rattle.queues.specs.Heads.{rejection_of}
use Rattle.queues.proofs.Notices as notices
use Rattle.queues.proofs.telling.notify.Goals as goal

pub loop-k-init : goal.loop-k-init
loop-k-init c = notices.notify_start c.args.j (name_of c.args.name.bytes) (rejection_of c.args.frame.now c.args.ending)

pub loop-k-preserved : goal.loop-k-preserved
loop-k-preserved c = notices.notify_next c.args.j (name_of c.args.name.bytes) (rejection_of c.args.frame.now c.args.ending) c.ids_count-n.result c.loop-k.k c.ids_count-n.ensures c.loop-k-test.true c.loop-k.invariant c.tell_id-q.ensures

pub returns : goal.returns
returns c = notices.notify_end c.args.j (name_of c.args.name.bytes) (rejection_of c.args.frame.now c.args.ending) c.ids_count-n.result c.loop-k.k c.ids_count-n.ensures c.loop-k-test.false c.loop-k.invariant
