use Rattle.sender_turns.specs.Sender.{Use}
use Rattle.sender_bytes.proofs.UseLaws.{long, leaves, uses_done}
use Rattle.sender_bytes.proofs.reply.Goals as goal

pub put_sender-requires : goal.put_sender-requires
put_sender-requires c = (long _ _ c.in_ok-held.ensures, leaves (Use.Reply c.args.mill c.args.number) _ _ _ c.in_ok-held.ensures _ c.reply.ensures)

pub returns : goal.returns
returns c = uses_done (Use.Reply c.args.mill c.args.number) _ _ _ c.in_ok-held.ensures _ _ c.in_ok-granted.ensures c.put_sender.ensures
