use Rattle.std.proofs.Common.{◌+◌, ◌*◌, rules}
use Rattle.sender_turns.specs.Sender.{mills}
use Rattle.sender_bytes.specs.Bytes.{call_bytes, lane_bytes}
use Rattle.sender_bytes.specs.Read.{call_out}
use Rattle.sender_bytes.proofs.PlaceLaws.{write_end}
use Rattle.sender_bytes.proofs.write.put_calls.Goals as goal

pub returns : goal.returns
returns c = write_end call_bytes call_out c.args.calls.now (mills * lane_bytes + 1) c.args.bytes.now c.loop-i.bytes c.loop-i.i c.loop-i.invariant (search rules)
