use Rattle.effects.proofs.Pieces.{expired_pieces}
use Rattle.effects.proofs.expired.Goals as goal

pub returns : goal.returns
returns c = expired_pieces c.notice.ensures c.text.ensures
