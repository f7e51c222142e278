use Rattle.effects.proofs.Pieces.{list_continue_pieces}
use Rattle.effects.proofs.list_continue.Goals as goal

pub returns : goal.returns
returns c = list_continue_pieces c.args.id c.asked.ensures c.byte.ensures c.text.ensures
