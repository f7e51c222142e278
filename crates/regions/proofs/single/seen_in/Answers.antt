use Rattle.std.proofs.Common.{rules}
use Rattle.model.specs.Formats.{resource_id}
use Rattle.regions.specs.Tests.{filled}
use Rattle.regions.proofs.Places as places
use Rattle.regions.proofs.single.seen_in.Goals as goal

pub returns : goal.returns
returns c = places.seen_both c.args.state.now c.requires (c.table_in.ensures (filled resource_id) (λ slot r l p. search rules))
