use Rattle.effects.proofs.Pieces.{list_start_pieces}
use Rattle.effects.proofs.list_start.Goals as goal

pub returns : goal.returns
returns c = list_start_pieces c.args.id c.asked.ensures c.byte.ensures
