-- The two sets of names of an open pass: where each is in a pass, how many names it may have, and where it stands. Assumes nothing.
use Rattle.std.specs.Prelude.{ℕ}
use Rattle.lent.specs.declared.Region.{Region}
use Rattle.model.specs.Seam.{ResourceId}
use Rattle.model.specs.State.{Set, Pass}
use Rattle.model.specs.Machine.{with_seen, with_observed}
use Rattle.pass_tables.specs.declared.Names.{Names}
use Rattle.pass_tables.specs.declared.Names.TheVariants.{Seen, Observed}
use Rattle.pass_tables.specs.declared.TheConstants.{SEEN, OBSERVED}

abbrev pub names_in : Names → Pass → Set ResourceId
names_in Seen p = p.seen
names_in Observed p = p.observed

abbrev pub with_names : Names → Set ResourceId → Pass → Pass
with_names Seen names p = with_seen names p
with_names Observed names p = with_observed names p

abbrev pub most_names : Names → ℕ
most_names Seen = 32
most_names Observed = 16

abbrev pub region_of : Names → Region
region_of Seen = SEEN
region_of Observed = OBSERVED
