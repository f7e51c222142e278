use Rattle.sender_lines.proofs.Laws.{puts_call}
use Rattle.sender_lines.proofs.put_call.Goals as goal

pub returns : goal.returns
returns c = puts_call _ _ _ c.put_be.ensures c.put_line.ensures
