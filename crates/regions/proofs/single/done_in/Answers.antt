use Rattle.std.proofs.Common.{arith}
use Rattle.format.proofs.FormatLaws.{option_law}
use Rattle.model.proofs.FormatsLaws.{short_text_law}
use Rattle.regions.proofs.Places as places
use Rattle.regions.proofs.single.done_in.Goals as goal

pub returns : goal.returns
returns c = places.field_both (option_law short_text_law) 19968 34 c.args.state.now (let l = c.requires in omega arith) (cc)
