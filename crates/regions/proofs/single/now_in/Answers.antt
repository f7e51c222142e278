use Rattle.std.proofs.Common.{arith}
use Rattle.format.proofs.FormatLaws.{option_law, stamp_law}
use Rattle.regions.proofs.Places as places
use Rattle.regions.proofs.single.now_in.Goals as goal

pub returns : goal.returns
returns c = places.field_both (option_law stamp_law) 58005 9 c.args.state.now (let l = c.requires in omega arith) (cc)
