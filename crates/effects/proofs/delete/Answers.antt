use Rattle.effects.proofs.Pieces.{delete_pieces}
use Rattle.effects.proofs.delete.Goals as goal

pub returns : goal.returns
returns c = record { told = λ m. delete_pieces c.args.id c.asked.ensures c.text.ensures c.part.ensures }
