use Rattle.effects.proofs.Pieces.{list_since_pieces}
use Rattle.effects.proofs.list_since.Goals as goal

pub returns : goal.returns
returns c = list_since_pieces c.args.id c.asked.ensures c.byte.ensures c.text.ensures
