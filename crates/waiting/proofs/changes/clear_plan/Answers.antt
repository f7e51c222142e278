use Rattle.state.specs.Values.{name_of}
use Rattle.waiting.proofs.Laws as laws
use Rattle.waiting.proofs.changes.clear_plan.Goals as goal

pub returns : goal.returns
returns c = laws.unplans (name_of c.args.name.bytes) c.args.work.now c.set_plan.new.work c.set_plan.ensures
