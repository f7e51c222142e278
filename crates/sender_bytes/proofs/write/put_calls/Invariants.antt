use Rattle.std.proofs.Common.{◌+◌, ◌*◌}
use Rattle.sender_turns.specs.Sender.{mills}
use Rattle.sender_bytes.specs.Bytes.{call_bytes, lane_bytes}
use Rattle.sender_bytes.specs.Read.{call_out}
use Rattle.sender_bytes.proofs.PlaceLaws.{Written}
use Rattle.sender_bytes.proofs.write.put_calls.Given as goal

abbrev pub invariant-loop-i : goal.invariant-loop-i
invariant-loop-i l = Written call_bytes call_out l.calls (mills * lane_bytes + 1) l.initial.bytes l.bytes l.i
