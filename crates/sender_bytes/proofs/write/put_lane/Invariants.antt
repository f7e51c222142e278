use Rattle.std.proofs.Common.{◌+◌}
use Rattle.numbers.specs.Big.{to_be}
use Rattle.sender_bytes.specs.Bytes.{number_bytes}
use Rattle.sender_bytes.proofs.PlaceLaws.{Written}
use Rattle.sender_bytes.proofs.write.put_lane.Given as goal

abbrev pub invariant-loop-i : goal.invariant-loop-i
invariant-loop-i l = Written number_bytes (to_be number_bytes) l.lane.numbers (l.at + 1) l.initial.bytes l.bytes l.i
