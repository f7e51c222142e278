use Rattle.observe.proofs.Forgetting as forgetting
use Rattle.machine.proofs.Runs as runs
use Rattle.observe.proofs.forget.forget_before.Goals as goal

pub learned_all-requires : goal.learned_all-requires
learned_all-requires c = runs.edited c.retain_learned.ensures c.requires

pub returns-then-oldest-learned_all : goal.returns-then-oldest-learned_all
returns-then-oldest-learned_all c = forgetting.before_left c.args.oldest c.retain_learned.ensures c.learned_all.ensures c.if-oldest-learned_all.true

pub set_learned_all-requires : goal.set_learned_all-requires
set_learned_all-requires c = runs.edited c.retain_learned.ensures c.requires

pub returns : goal.returns
returns c = forgetting.before_all c.args.oldest c.retain_learned.ensures c.learned_all.ensures c.if-oldest-learned_all.false c.set_learned_all.ensures
