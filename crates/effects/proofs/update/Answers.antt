use Rattle.effects.proofs.Pieces.{update_pieces}
use Rattle.effects.proofs.update.Goals as goal

pub returns : goal.returns
returns c = record { told = λ m e. update_pieces c.args.id c.asked.ensures c.text.ensures c.part.ensures c.part-2.ensures }
