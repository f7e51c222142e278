use Rattle.sender_bytes.specs.Bytes.{lane_bytes}
use Rattle.sender_bytes.specs.Read.{lane_out}
use Rattle.sender_bytes.proofs.PlaceLaws.{Written}
use Rattle.sender_bytes.proofs.write.put_lanes.Given as goal

abbrev pub invariant-loop-i : goal.invariant-loop-i
invariant-loop-i l = Written lane_bytes lane_out l.lanes 0 l.initial.bytes l.bytes l.i
