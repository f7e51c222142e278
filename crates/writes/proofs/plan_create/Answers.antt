use Rattle.writes.proofs.Planning as planning
use Rattle.writes.proofs.plan_create.Goals as goal

pub finish-requires : goal.finish-requires
finish-requires c = record { has_state = c.remap-q.ensures.state c.requires.has_state; named = c.requires.named.0 }

pub returns-then-looks_up : goal.returns-then-looks_up
returns-then-looks_up c = λ t k e. planning.create_remaps _ c.requires.has_state c.requires.named.2 c.looks_up.ensures t c.if-looks_up.true (c.resource_of-to.ensures.0 t k e) c.remap-q.ensures c.finish.ensures

pub returns-then-same_as_head : goal.returns-then-same_as_head
returns-then-same_as_head c = λ t k e. planning.create_same _ c.requires.has_state c.requires.named.2 c.looks_up.ensures t c.if-looks_up.false (λ f u R B. c.same_as_head.ensures f u R (planning.begins_as t e B)) k c.if-same_as_head.true c.finish-then-same_as_head.ensures

pub returns : goal.returns
returns c = λ t k e. planning.create_differs _ c.requires.has_state c.requires.named.2 c.looks_up.ensures t c.if-looks_up.false (λ f u R B. c.same_as_head.ensures f u R (planning.begins_as t e B)) k c.if-same_as_head.false c.finish-2.ensures
