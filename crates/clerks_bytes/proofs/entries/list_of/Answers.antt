use Rattle.clerks_bytes.specs.Entries.{list_of}
use Rattle.clerks_bytes.proofs.entries.list_of.Goals as goal

pub returns : goal.returns
unfolding list_of
returns c = c.unit_part.ensures
