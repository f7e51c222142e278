use Rattle.effects.proofs.Pieces.{notice_pieces}
use Rattle.effects.proofs.notice.Goals as goal

pub returns : goal.returns
returns c = notice_pieces c.byte.ensures c.byte-2.ensures
