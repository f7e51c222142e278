use Rattle.std.proofs.Common.{rules}
use Rattle.model.specs.Formats.{u64}
use Rattle.regions.specs.Tests.{is_named}
use Rattle.regions.proofs.Places as places
use Rattle.regions.proofs.single.learned_in.Goals as goal

pub returns : goal.returns
returns c = places.learned_both c.args.state.now c.requires (c.table_in.ensures (is_named 8 u64) (λ slot r l p. search rules))
