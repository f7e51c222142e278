use Rattle.effects.proofs.Pieces.{rejected_by_provider_pieces}
use Rattle.effects.proofs.rejected_by.Goals as goal

pub returns : goal.returns
returns c = rejected_by_provider_pieces c.notice.ensures c.text.ensures c.byte-place.ensures c.describe.ensures.wrote
