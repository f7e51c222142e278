use Rattle.writes.proofs.Plans as plans
use Rattle.writes.proofs.plan_head.Goals as goal

pub set_plan-requires : goal.set_plan-requires
set_plan-requires c = record { has_state = c.requires.has_state; named = (c.requires.named, plans.part_short c.put_conflicts-m.new.out _ c.put_conflicts-m.result 3072 c.put_conflicts-m.auto.out c.part-a.ensures, plans.part_short c.put_refused-n.new.out _ c.put_refused-n.result 1024 c.put_refused-n.auto.out c.part-b.ensures) }

pub returns : goal.returns
returns c = λ b o t by G. plans.plans _ _ G (c.put_conflicts-m.ensures b o t by G) (c.put_refused-n.ensures b o t by G) c.part-a.ensures c.part-b.ensures c.set_plan.ensures
