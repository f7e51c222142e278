use Rattle.model.specs.Sync.{ids_of}
use Rattle.observe.proofs.Each as each
use Rattle.clock.proofs.Expiring as expiring
use Rattle.clock.proofs.tell_expired.Goals as goal

pub loop-k-init : goal.loop-k-init
loop-k-init c = λ e E. each.each_start expiring.tell_id (ids_of e)

pub loop-k-preserved : goal.loop-k-preserved
loop-k-preserved c = λ e E. expiring.id_turn _ _ _ e c.requires.has_state c.ids_count-n.ensures E _ _ c.loop-k-test.true c.entry_id-id.ensures (c.loop-k.invariant e E) c.tell_id-q.ensures

pub returns : goal.returns
returns c = λ e E. expiring.id_end _ _ _ e c.requires.has_state c.ids_count-n.ensures E _ c.loop-k.auto.k-end c.loop-k-test.false (c.loop-k.invariant e E)
