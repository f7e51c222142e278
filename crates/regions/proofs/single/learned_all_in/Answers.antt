use Rattle.std.proofs.Common.{arith}
use Rattle.model.proofs.FormatsLaws.{u64_law}
use Rattle.regions.proofs.Places as places
use Rattle.regions.proofs.single.learned_all_in.Goals as goal

pub returns : goal.returns
returns c = places.field_both u64_law 57997 8 c.args.state.now (let l = c.requires in omega arith) (cc)
