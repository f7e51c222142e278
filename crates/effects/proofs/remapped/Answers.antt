use Rattle.effects.proofs.Pieces.{remapped_pieces}
use Rattle.effects.proofs.remapped.Goals as goal

pub returns : goal.returns
returns c = remapped_pieces c.notice.ensures c.text.ensures c.text-2.ensures
