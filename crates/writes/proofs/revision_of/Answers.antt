use Rattle.writes.proofs.Plans as plans
use Rattle.writes.proofs.revision_of.Goals as goal

pub returns : goal.returns
returns c = plans.revision_is c.skip_ids-from.ensures c.skip_option_short_text-to.ensures c.part.ensures
