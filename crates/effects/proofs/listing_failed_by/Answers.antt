use Rattle.effects.proofs.Pieces.{listing_failed_pieces}
use Rattle.effects.proofs.listing_failed_by.Goals as goal

pub returns : goal.returns
returns c = listing_failed_pieces c.notice-place.ensures c.describe.ensures.wrote
