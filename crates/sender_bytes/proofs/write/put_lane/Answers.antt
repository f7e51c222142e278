use Rattle.std.proofs.Common.{◌+◌, rules}
use Rattle.numbers.proofs.Laws.{length_to}
use Rattle.numbers.specs.Big.{to_be}
use Rattle.sender_bytes.specs.Bytes.{number_bytes}
use Rattle.sender_bytes.proofs.PlaceLaws.{write_turn, with_number}
use Rattle.sender_bytes.proofs.write.put_lane.Goals as goal

pub loop-i-preserved : goal.loop-i-preserved
loop-i-preserved c =
    write_turn number_bytes (to_be number_bytes) c.args.lane.now.numbers (c.args.at + 1) _ c.loop-i.bytes c.loop-i.i 0 c.put_be.new.dst
    c.loop-i.invariant
    (search rules)
    (length_to number_bytes _)
    (search rules)
    (with_number _ _ c.loop-i.bytes c.put_be.new.dst c.put_be.ensures)
