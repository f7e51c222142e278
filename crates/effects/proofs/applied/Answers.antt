use Rattle.effects.proofs.Pieces.{applied_pieces}
use Rattle.effects.proofs.applied.Goals as goal

pub returns : goal.returns
returns c = record { told = λ cs rs. applied_pieces c.notice.ensures c.text.ensures c.part.ensures c.part-2.ensures }
