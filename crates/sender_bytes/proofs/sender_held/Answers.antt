use Rattle.sender_bytes.proofs.UseLaws.{held_yes}
use Rattle.sender_bytes.proofs.sender_held.Goals as goal

pub returns : goal.returns
returns c = held_yes _ _ c.if-bytes-ne-LENGTH.false (λ i. (c.type_inv.bytes i).fits) c.sender_in-sender.ensures (c.is_sender.ensures.0 c.if-not-is_sender.false)
