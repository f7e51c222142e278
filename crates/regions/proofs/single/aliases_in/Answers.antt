use Rattle.std.proofs.Common.{rules}
use Rattle.model.specs.Formats.{resource_id}
use Rattle.regions.specs.Tests.{is_named}
use Rattle.regions.proofs.Places as places
use Rattle.regions.proofs.single.aliases_in.Goals as goal

pub returns : goal.returns
returns c = places.aliases_both c.args.state.now c.requires (c.table_in.ensures (is_named 33 resource_id) (λ slot r l p. search rules))
