use Rattle.std.proofs.Common.{arith}
use Rattle.model.proofs.FormatsLaws.{list_from_f_law}
use Rattle.regions.proofs.Places as places
use Rattle.regions.proofs.single.from_in.Goals as goal

pub returns : goal.returns
returns c = places.field_both list_from_f_law 9187 34 c.args.state.now (let l = c.requires in omega arith) (cc)
