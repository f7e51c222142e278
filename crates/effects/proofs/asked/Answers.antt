use Rattle.effects.proofs.Pieces.{asked_pieces}
use Rattle.effects.proofs.asked.Goals as goal

pub returns : goal.returns
returns c = asked_pieces c.args.id c.byte.ensures c.number.ensures c.byte-2.ensures
