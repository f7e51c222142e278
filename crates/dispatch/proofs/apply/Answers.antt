use Rattle.observe.proofs.Forgetting as forgetting
use Rattle.dispatch.proofs.Laws as laws
use Rattle.machine.proofs.Runs as runs
use Rattle.dispatch.proofs.apply.Goals as goal

pub forget_settled-requires : goal.forget_settled-requires
forget_settled-requires c = c.handle-q.ensures.state c.requires.has_state

pub forget_aliases-requires : goal.forget_aliases-requires
forget_aliases-requires c = runs.edited c.forget_settled.ensures (c.handle-q.ensures.state c.requires.has_state)

pub returns : goal.returns
returns c = laws.applied _ _ _ forgetting.forget_settled_is forgetting.forget_aliases_is c.handle-q.ensures c.forget_settled.ensures c.forget_aliases.ensures
