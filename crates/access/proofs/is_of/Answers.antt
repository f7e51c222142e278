use Rattle.access.proofs.Laws.{of_is}
use Rattle.std.proofs.Common.{◌+◌, ◌-◌, ◌∙◌, take, drop}
use Rattle.spans.proofs.Laws.{same_bytes}
use Rattle.access.proofs.is_of.Goals as goal

pub returns : goal.returns
returns c = c.eq.ensures ∙ same_bytes (take (c.text_len-end.result + 1 - 1) (drop 1 c.args.slot.now)) c.args.resource.now ∙ of_is c.args.slot.now c.args.resource.now c.text_len-end.result c.text_len-end.ensures.1
