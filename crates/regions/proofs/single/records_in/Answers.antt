use Rattle.std.proofs.Common.{rules}
use Rattle.model.specs.Formats.{event_f}
use Rattle.regions.specs.Tests.{is_named}
use Rattle.regions.proofs.Places as places
use Rattle.regions.proofs.single.records_in.Goals as goal

pub returns : goal.returns
returns c = places.records_both c.args.state.now c.requires (c.table_in.ensures (is_named 882 event_f) (λ slot r l p. search rules))
