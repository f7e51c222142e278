use Rattle.std.proofs.Common.{arith}
use Rattle.format.proofs.FormatLaws.{bool_law}
use Rattle.regions.proofs.Places as places
use Rattle.regions.proofs.single.full_in.Goals as goal

pub returns : goal.returns
returns c = places.field_both bool_law 9186 1 c.args.state.now (let l = c.requires in omega arith) (cc)
