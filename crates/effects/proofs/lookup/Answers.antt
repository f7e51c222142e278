use Rattle.effects.proofs.Pieces.{lookup_pieces}
use Rattle.effects.proofs.lookup.Goals as goal

pub returns : goal.returns
returns c = lookup_pieces c.args.id c.asked.ensures c.text.ensures
