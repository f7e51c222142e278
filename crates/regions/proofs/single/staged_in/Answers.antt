use Rattle.std.proofs.Common.{rules}
use Rattle.model.specs.SavedForm.{staged_f}
use Rattle.regions.specs.Tests.{is_named}
use Rattle.regions.proofs.Places as places
use Rattle.regions.proofs.single.staged_in.Goals as goal

pub returns : goal.returns
returns c = places.staged_both c.args.state.now c.requires (c.table_in.ensures (is_named 883 staged_f) (λ slot r l p. search rules))
