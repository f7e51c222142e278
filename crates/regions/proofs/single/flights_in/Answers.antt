use Rattle.std.proofs.Common.{rules}
use Rattle.regions.specs.Tests.{is_flight}
use Rattle.regions.proofs.Places as places
use Rattle.regions.proofs.single.flights_in.Goals as goal

pub returns : goal.returns
returns c = places.flights_both c.args.state.now c.requires (c.table_in.ensures is_flight (λ slot r l p. search rules))
