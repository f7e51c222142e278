use Rattle.effects.proofs.Pieces.{rejected_pieces}
use Rattle.effects.proofs.rejected.Goals as goal

pub returns : goal.returns
returns c = rejected_pieces c.args.refusal c.notice.ensures c.text.ensures c.byte.ensures c.case_of-case.ensures
