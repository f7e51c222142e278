use Rattle.effects.proofs.Pieces.{read_pieces}
use Rattle.effects.proofs.read.Goals as goal

pub returns : goal.returns
returns c = read_pieces c.args.id c.asked.ensures c.text.ensures
