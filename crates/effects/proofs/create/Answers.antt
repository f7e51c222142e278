use Rattle.effects.proofs.Pieces.{create_pieces}
use Rattle.effects.proofs.create.Goals as goal

pub returns : goal.returns
returns c = record { told = λ e. create_pieces c.args.id c.asked.ensures c.text.ensures c.part.ensures }
