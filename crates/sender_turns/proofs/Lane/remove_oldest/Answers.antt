use Rattle.std.proofs.Common.{arith}
use Rattle.std.proofs.lemmas.Grind.{elements}
use Rattle.sender_turns.proofs.LaidLaws.{rest_one}
use Rattle.sender_turns.proofs.Lane.remove_oldest.Goals as goal

pub returns : goal.returns
returns c = rest_one c.args.self.now _ c.requires (grind (arith, elements))
