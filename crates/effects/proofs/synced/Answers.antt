use Rattle.effects.proofs.Pieces.{synced_pieces}
use Rattle.effects.proofs.synced.Goals as goal

pub returns : goal.returns
returns c = synced_pieces c.notice.ensures
