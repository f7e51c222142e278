use Rattle.passes.proofs.Listing as laws
use Rattle.passes.proofs.changes.stage_removed.Goals as goal

pub returns : goal.returns
returns c = laws.stages c.args.p _ _ c.stage_removed-within.ensures c.tried.ensures
